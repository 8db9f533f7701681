-- What a command of a script asks of the room.
use Rattle.std.specs.Prelude.{Some, None, Option}
use Rattle.script.specs.declared.command.Command.{Command}
use Rattle.script.specs.declared.command.Command.TheVariants as script
use Rattle.room.specs.declared.action.Action.TheVariants as action
use Rattle.room.specs.declared.edit.Edit.TheVariants as edit
use Rattle.room.specs.declared.command.Command.{Command as RoomCommand}
use Rattle.room.specs.declared.command.Command.TheVariants as room

-- showing asks nothing
abbrev pub asked : Command → Option RoomCommand
asked (script.Type w p x) = Some (room.Ask w (action.Edit (edit.Insert p x)))
asked (script.Strike w p) = Some (room.Ask w (action.Edit (edit.Delete p)))
asked (script.Take w) = Some (room.Ask w action.Take)
asked (script.See w) = Some (room.Ask w action.See)
asked (script.New w) = Some (room.Ask w action.Join)
asked script.Stop = Some room.Crash
asked script.Settle = Some room.Settle
asked script.Show = None
