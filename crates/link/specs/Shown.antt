-- What is shown of values that lie in bytes.
use Rattle.std.specs.Prelude.{ℕ, List}
use Rattle.text.specs.Texts.{Letter, paired}
use Rattle.link.specs.declared.letters.Letters.{Letters}
use Rattle.link.specs.declared.message.Snapshot.{Snapshot}
use Rattle.link.specs.declared.message.TextToSend.{TextToSend}
use Rattle.link.specs.declared.datagram.Datagram.{Datagram}
use Rattle.link.specs.declared.datagram.Datagram.TheVariants as datagram
use Rattle.link.specs.declared.message.FromServer.{FromServer}
use Rattle.link.specs.declared.message.FromServer.TheVariants as server
use Rattle.link.specs.Letters.{letters_at}
use Rattle.link.specs.Messages.{Message, Sheet, entry, text}

abbrev pub letters_of : Letters → List Letter
letters_of l = letters_at l.bytes.now

abbrev pub sheet_of : Snapshot → Sheet
sheet_of s = record { site = s.site; performed = s.performed; revision = s.revision; letters = letters_of s.letters }

abbrev pub from_server : FromServer → Message
from_server (server.Entry e) = entry e
from_server (server.Text s) = text (sheet_of s)

-- a text as the server has it
abbrev pub sheet_to_send : TextToSend → Sheet
sheet_to_send t = record { site = t.site; performed = t.performed; revision = t.revision; letters = paired t.letters.now t.sites.now }

abbrev pub text_packet : ℕ → ℕ → TextToSend → Datagram Message
text_packet c n t = datagram.Packet (record { connection = c; number = n; message = text (sheet_to_send t) })
