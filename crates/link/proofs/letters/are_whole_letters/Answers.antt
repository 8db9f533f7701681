use Rattle.std.proofs.Common.{◌/◌, arith}
use Rattle.std.proofs.lemmas.List.{take_rest}
use Rattle.link.proofs.Windows.{letters_in_two}
use Rattle.link.proofs.letters.are_whole_letters.Goals as goal

pub returns : goal.returns
returns c = rw (c.are_letters_in_windows.ensures, c.are_letters_by_one.ensures, take_rest) (letters_in_two c.args.bytes.now (c.saturating_sub-windows.result / 15) (omega arith))
