-- What a line of a script asks.
use Rattle.std.specs.Prelude.{ℕ, ◌-◌, ◌^◌, ◌==◌, nat_le, List, [], ◌∷◌, length, if◌then◌else◌, Option, Some, None, Result, Ok, Err, option_and_then, codes}
use Rattle.std.specs.Option.{option_map}
use Rattle.std.specs.List.{slice_split, join_with_byte, find}
use Rattle.std.specs.Str.{bytes_eq}
use Rattle.base32_text.specs.Reading.{reading}
use Rattle.gate_tasks.specs.declared.command.Share.{Share}
use Rattle.gate_tasks.specs.declared.command.Command.{Command}
use Rattle.gate_tasks.specs.declared.command.Command.TheVariants as command
use Rattle.gate_tasks.specs.declared.command.Call.TheVariants.{Open, Bytes, End, Take, Lose, Spoil, Image}
use Rattle.gate_tasks.specs.declared.verb.Verb.{Verb}
use Rattle.gate_tasks.specs.declared.verb.Verb.TheVariants as verb
use Rattle.octets.specs.Decimal.{number_to}
use Rattle.gate_tasks.specs.Text.{unescaped}

-- the words of a line, parted by one space; a word may be empty
abbrev pub words : List ℕ → List (List ℕ)
words line = slice_split (λ byte. byte == 32) line

-- numbers that fit 16, 32 and 64 bits
abbrev pub short_number : List ℕ → Option ℕ
short_number word = number_to (2 ^ 16 - 1) word

abbrev pub middle_number : List ℕ → Option ℕ
middle_number word = number_to (2 ^ 32 - 1) word

abbrev pub long_number : List ℕ → Option ℕ
long_number word = number_to (2 ^ 64 - 1) word

-- the number of servers: 1 to 256
abbrev pub server_count : List ℕ → Option ℕ
server_count word = option_and_then (λ servers. if nat_le 1 servers then Some servers else None) (number_to 256 word)

-- the bytes that a base32 text spells
abbrev pub spelled : {F : Type 0} → Result (List ℕ) F → Option (List ℕ)
spelled (Ok bytes) = Some bytes
spelled (Err fault) = None

-- SECRET: `-` for the empty one, else base32, which is not empty
abbrev pub secret_word : List ℕ → Option (List ℕ)
secret_word word = if bytes_eq word (codes "-") then Some [] else (if length word == 0 then None else spelled (reading word))

-- SI: the 16 bytes of a storage index
abbrev pub exact : ℕ → Option (List ℕ) → Option (List ℕ)
exact count bytes = option_and_then (λ bytes. if length bytes == count then Some bytes else None) bytes

abbrev pub index_word : List ℕ → Option (List ℕ)
index_word word = exact 16 (spelled (reading word))

-- SERVER, SI and NUMBER
abbrev pub share_words : List ℕ → List ℕ → List ℕ → Option Share
share_words server index number =
    option_and_then (λ server. option_and_then (λ index. option_map (λ number.
    record { server = server; index = index; number = number })
    (short_number number)) (index_word index)) (middle_number server)

-- grid K N S ROOM SECRET
abbrev pub grid_of : List (List ℕ) → Option Command
grid_of (k ∷ n ∷ servers ∷ room ∷ secret ∷ []) =
    option_and_then (λ k. option_and_then (λ n. option_and_then (λ servers. option_and_then (λ room. option_map (λ secret.
    command.Grid (record { k = k; n = n; servers = servers; room = room; secret = secret }))
    (secret_word secret)) (long_number room)) (server_count servers)) (short_number n)) (short_number k)
grid_of arguments = None

-- TEXT, which is all that stands after a space, spaces too
abbrev pub text_words : List (List ℕ) → Option (List ℕ)
text_words [] = None
text_words (word ∷ more) = unescaped (join_with_byte 32 (word ∷ more))

-- restore TEXT
abbrev pub restore_of : List (List ℕ) → Option Command
restore_of arguments = option_map (λ image. command.Restore image) (text_words arguments)

-- open ID, or open ID SECRET
abbrev pub open_of : List (List ℕ) → Option Command
open_of (id ∷ []) = option_map (λ id. command.Call (Open id None)) (long_number id)
open_of (id ∷ secret ∷ []) = option_and_then (λ id. option_map (λ secret. command.Call (Open id (Some secret))) (secret_word secret)) (long_number id)
open_of arguments = None

-- bytes ID TEXT
abbrev pub bytes_command : List (List ℕ) → Option Command
bytes_command [] = None
bytes_command (id ∷ text) = option_and_then (λ id. option_map (λ piece. command.Call (Bytes id piece)) (text_words text)) (long_number id)

-- end ID
abbrev pub end_of : List (List ℕ) → Option Command
end_of (id ∷ []) = option_map (λ id. command.Call (End id)) (long_number id)
end_of arguments = None

-- take ID MAX
abbrev pub take_of : List (List ℕ) → Option Command
take_of (id ∷ most ∷ []) = option_and_then (λ id. option_map (λ most. command.Call (Take id most)) (middle_number most)) (long_number id)
take_of arguments = None

-- lose SERVER SI NUMBER
abbrev pub lose_of : List (List ℕ) → Option Command
lose_of (server ∷ index ∷ number ∷ []) = option_map (λ share. command.Call (Lose share)) (share_words server index number)
lose_of arguments = None

-- spoil SERVER SI NUMBER PLACE
abbrev pub spoil_of : List (List ℕ) → Option Command
spoil_of (server ∷ index ∷ number ∷ place ∷ []) =
    option_and_then (λ share. option_map (λ place. command.Call (Spoil share place)) (long_number place)) (share_words server index number)
spoil_of arguments = None

-- image
abbrev pub image_of : List (List ℕ) → Option Command
image_of [] = Some (command.Call Image)
image_of (word ∷ more) = None

-- the word that names each verb
abbrev pub name_of : Verb → List ℕ
name_of verb.Grid = codes "grid"
name_of verb.Restore = codes "restore"
name_of verb.Open = codes "open"
name_of verb.Bytes = codes "bytes"
name_of verb.End = codes "end"
name_of verb.Take = codes "take"
name_of verb.Lose = codes "lose"
name_of verb.Spoil = codes "spoil"
name_of verb.Image = codes "image"

-- all verbs
abbrev pub verbs : List Verb
verbs = verb.Grid ∷ verb.Restore ∷ verb.Open ∷ verb.Bytes ∷ verb.End ∷ verb.Take ∷ verb.Lose ∷ verb.Spoil ∷ verb.Image ∷ []

-- the verb that a word names, or none
abbrev pub verb_of : List ℕ → Option Verb
verb_of word = find (λ known. bytes_eq (name_of known) word) verbs

-- the command of a verb with these arguments
abbrev pub asked_with : Verb → List (List ℕ) → Option Command
asked_with verb.Grid arguments = grid_of arguments
asked_with verb.Restore arguments = restore_of arguments
asked_with verb.Open arguments = open_of arguments
asked_with verb.Bytes arguments = bytes_command arguments
asked_with verb.End arguments = end_of arguments
asked_with verb.Take arguments = take_of arguments
asked_with verb.Lose arguments = lose_of arguments
asked_with verb.Spoil arguments = spoil_of arguments
asked_with verb.Image arguments = image_of arguments

-- a verb and its arguments
abbrev pub command_of_words : List (List ℕ) → Option Command
command_of_words [] = None
command_of_words (word ∷ arguments) = option_and_then (λ known. asked_with known arguments) (verb_of word)

-- the command that a line gives, or none where it is a bad line
abbrev pub command_of : List ℕ → Option Command
command_of line = command_of_words (words line)
