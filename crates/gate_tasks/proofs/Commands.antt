-- Lines that are cut at their spaces.
use Rattle.std.proofs.Common.{◌≡◌, ◌≢◌, ℕ, ◌-◌, ◌^◌, ◌<◌, List, [], ◌∷◌, ◌++◌, length, Bool, true, false, All, Option, Some, None, refl, sym, ap, ◌∙◌, arith, ne_eqb}
use Rattle.std.specs.Prelude.{◌&&◌, ◌==◌, option_and_then, cond, nat_le, not, ◌||◌, slice_index}
use Rattle.std.specs.Char.{is_ascii_digit}
use Rattle.std.specs.Str.Parse.{digits_value}
use Rattle.std.specs.List.{join_with_byte, list_all}
use Rattle.std.specs.Option.{option_map}
use Rattle.std.proofs.lemmas.List.Elements.{All-weaker}
use Rattle.std.proofs.lemmas.List.Splits.{slice_split_at, slice_split_none, join_with_byte-slice_split, length-slice_split}
use Rattle.octets.specs.Cut.{IsCutAt}
use Rattle.octets.specs.Decimal.{number_to}
use Rattle.gate_tasks.specs.Text.{unescaped}
use Rattle.gate_tasks.specs.Command.{words, verb_of, asked_with, command_of_words, command_of, grid_of, restore_of, open_of, secret_word, bytes_command, text_words, end_of, take_of, lose_of, spoil_of, image_of, share_words, index_word, middle_number, long_number}
use Rattle.gate_tasks.specs.declared.command.Command.{Command}
use Rattle.gate_tasks.specs.declared.command.Command.TheVariants as command
use Rattle.gate_tasks.specs.declared.command.Call.TheVariants.{Open, Bytes, End, Take, Lose, Spoil}
use Rattle.gate_tasks.specs.declared.verb.Verb.{Verb}
use Rattle.gate_tasks.specs.declared.command.Share.{Share}

is_other : (b : ℕ) → b ≢ 32 → (b == 32) ≡ false
is_other b other = ne_eqb b 32 other

-- a line that is cut at its first space
pub words_cut : (line word rest : List ℕ) → IsCutAt 32 line word rest → words line ≡ word ∷ words rest
words_cut line word rest cut =
    ap words cut.parts ∙ slice_split_at (λ b. b == 32) word 32 rest (All-weaker (λ b. b ≢ 32) (λ b. (b == 32) ≡ false) is_other word cut.before) refl

-- a line with no space
pub words_one : (line : List ℕ) → All (λ b. b ≢ 32) line → words line ≡ line ∷ []
words_one line none = slice_split_none (λ b. b == 32) line (All-weaker (λ b. b ≢ 32) (λ b. (b == 32) ≡ false) is_other line none)

-- its words joined are the line
joined_words : (line : List ℕ) → join_with_byte 32 (words line) ≡ line
joined_words line = join_with_byte-slice_split 32 line

-- a line has a word
pub some_word : (line : List ℕ) → 0 < length (words line)
some_word line = omega (arith, length-slice_split (λ b. b == 32) line)

-- ---- numbers hold no space

and_false : (t : Bool) → (t && false) ≡ false
and_false true = refl
and_false false = refl

no_digits : (word rest : List ℕ) → list_all is_ascii_digit (word ++ 32 ∷ rest) ≡ false
no_digits [] rest = refl
no_digits (b ∷ word) rest = ap (λ t. is_ascii_digit b && t) (no_digits word rest) ∙ and_false (is_ascii_digit b)

number_spaced : (most : ℕ) (word rest : List ℕ) → None ≡ number_to most (word ++ 32 ∷ rest)
number_spaced most word rest =
    let line = word ++ 32 ∷ rest in
    ap (λ t. cond (t && not (length line == 0) && ((length line == 1) || not (slice_index line 0 == 48)) && nat_le (digits_value 10 line) most) (Some (digits_value 10 line)) None)
    (sym (no_digits word rest))

-- ---- the arguments of `open`, and the one of `end`

pub open_one : (line : List ℕ) (asked : Option Command) → All (λ b. b ≢ 32) line → asked ≡ option_map (λ id. command.Call (Open id None)) (long_number line) → asked ≡ open_of (words line)
open_one line asked none is = is ∙ ap open_of (sym (words_one line none))

open_more : (id secret : List ℕ) (ws : List (List ℕ)) → 0 < length ws → None ≡ open_of (id ∷ secret ∷ ws)
open_more id secret [] some = absurd (omega arith)
open_more id secret (w ∷ ws) some = refl

pub open_three : (line id rest secret more : List ℕ) → IsCutAt 32 line id rest → IsCutAt 32 rest secret more → None ≡ open_of (words line)
open_three line id rest secret more cut1 cut2 =
    open_more id secret (words more) (some_word more) ∙ ap open_of (sym (words_cut line id rest cut1 ∙ ap (λ ws. id ∷ ws) (words_cut rest secret more cut2)))

open_by : Option ℕ → Option (List ℕ) → Option Command
open_by id secret = option_and_then (λ id. option_map (λ secret. command.Call (Open id (Some secret))) secret) id

pub open_line : (line word rest : List ℕ) (id : Option ℕ) (secret : Option (List ℕ)) → IsCutAt 32 line word rest → All (λ b. b ≢ 32) rest → id ≡ long_number word → secret ≡ secret_word rest
    → option_and_then (λ id. option_map (λ secret. command.Call (Open id (Some secret))) secret) id ≡ open_of (words line)
unfolding open_by
open_line line word rest id secret cut none first second =
    ap (λ i. open_by i secret) first ∙ ap (open_by (long_number word)) second
    ∙ ap open_of (sym (words_cut line word rest cut ∙ ap (λ ws. word ∷ ws) (words_one rest none)))

end_is : (line : List ℕ) (ws : List (List ℕ)) → join_with_byte 32 ws ≡ line → option_map (λ id. command.Call (End id)) (long_number line) ≡ end_of ws
end_is line [] is = ap (λ l. option_map (λ id. command.Call (End id)) (long_number l)) (sym is)
end_is line (w ∷ []) is = ap (λ l. option_map (λ id. command.Call (End id)) (long_number l)) (sym is)
end_is line (w ∷ v ∷ more) is = ap (option_map (λ id. command.Call (End id))) (ap long_number (sym is) ∙ sym (number_spaced (2 ^ 64 - 1) w (join_with_byte 32 (v ∷ more))))

pub end_line : (line : List ℕ) (id : Option ℕ) → id ≡ long_number line → option_map (λ id. command.Call (End id)) id ≡ end_of (words line)
end_line line id is = ap (option_map (λ id. command.Call (End id))) is ∙ end_is line (words line) (joined_words line)

-- ---- the arguments of `take`

take_by : Option ℕ → Option ℕ → Option Command
take_by id most = option_and_then (λ id. option_map (λ most. command.Call (Take id most)) most) id

take_is : (word line : List ℕ) (ws : List (List ℕ)) → join_with_byte 32 ws ≡ line → take_by (long_number word) (number_to (2 ^ 32 - 1) line) ≡ take_of (word ∷ ws)
unfolding take_by
take_is word line [] is = ap (λ l. take_by (long_number word) (number_to (2 ^ 32 - 1) l)) (sym is) ∙ never (long_number word)
  where
    never : (id : Option ℕ) → option_and_then (λ id. option_map (λ most. command.Call (Take id most)) None) id ≡ None
    never None = refl
    never (Some id) = refl
take_is word line (w ∷ []) is = ap (λ l. take_by (long_number word) (number_to (2 ^ 32 - 1) l)) (sym is)
take_is word line (w ∷ v ∷ more) is =
    ap (take_by (long_number word)) (ap (number_to (2 ^ 32 - 1)) (sym is) ∙ sym (number_spaced (2 ^ 32 - 1) w (join_with_byte 32 (v ∷ more)))) ∙ never (long_number word)
  where
    never : (id : Option ℕ) → option_and_then (λ id. option_map (λ most. command.Call (Take id most)) None) id ≡ None
    never None = refl
    never (Some id) = refl

pub take_line : (line word rest : List ℕ) (id most : Option ℕ) → IsCutAt 32 line word rest → id ≡ long_number word → most ≡ number_to (2 ^ 32 - 1) rest
    → option_and_then (λ id. option_map (λ most. command.Call (Take id most)) most) id ≡ take_of (words line)
unfolding take_by
take_line line word rest id most cut first second =
    ap (λ i. take_by i most) first ∙ ap (take_by (long_number word)) second ∙ take_is word rest (words rest) (joined_words rest) ∙ ap take_of (sym (words_cut line word rest cut))

pub take_one : (line : List ℕ) → All (λ b. b ≢ 32) line → None ≡ take_of (words line)
take_one line none = ap take_of (sym (words_one line none))

-- ---- the arguments of `bytes`

bytes_is : (word line : List ℕ) (ws : List (List ℕ)) → join_with_byte 32 ws ≡ line → 0 < length ws
    → option_and_then (λ id. option_map (λ piece. command.Call (Bytes id piece)) (unescaped line)) (long_number word) ≡ bytes_command (word ∷ ws)
bytes_is word line [] is some = absurd (omega arith)
bytes_is word line (w ∷ more) is some = ap (λ l. option_and_then (λ id. option_map (λ piece. command.Call (Bytes id piece)) (unescaped l)) (long_number word)) (sym is)

pub bytes_line : (line word rest : List ℕ) (id : Option ℕ) (piece : Option (List ℕ)) → IsCutAt 32 line word rest → id ≡ long_number word → piece ≡ unescaped rest
    → option_and_then (λ id. option_map (λ piece. command.Call (Bytes id piece)) piece) id ≡ bytes_command (words line)
bytes_line line word rest id piece cut first second =
    ap (λ i. option_and_then (λ id. option_map (λ piece. command.Call (Bytes id piece)) piece) i) first
    ∙ ap (λ p. option_and_then (λ id. option_map (λ piece. command.Call (Bytes id piece)) p) (long_number word)) second
    ∙ bytes_is word rest (words rest) (joined_words rest) (some_word rest) ∙ ap bytes_command (sym (words_cut line word rest cut))

bytes_never : (id : Option ℕ) → None ≡ option_and_then (λ id. option_map (λ piece. command.Call (Bytes id piece)) None) id
bytes_never None = refl
bytes_never (Some id) = refl

pub bytes_one : (line : List ℕ) → All (λ b. b ≢ 32) line → None ≡ bytes_command (words line)
bytes_one line none = bytes_never (long_number line) ∙ ap bytes_command (sym (words_one line none))

-- ---- the argument of `restore`

text_is : (line : List ℕ) (ws : List (List ℕ)) → join_with_byte 32 ws ≡ line → 0 < length ws → unescaped line ≡ text_words ws
text_is line [] is some = absurd (omega arith)
text_is line (w ∷ more) is some = ap unescaped (sym is)

pub restore_line : (line : List ℕ) (image : Option (List ℕ)) → image ≡ unescaped line → option_map (λ i. command.Restore i) image ≡ restore_of (words line)
restore_line line image is = ap (option_map (λ i. command.Restore i)) (is ∙ text_is line (words line) (joined_words line) (some_word line))

-- ---- the arguments of `lose` and of `spoil`

share_by : Option ℕ → Option (List ℕ) → Option ℕ → Option Share
share_by server index number = option_and_then (λ server. option_and_then (λ index. option_map (λ number. record { server = server; index = index; number = number }) number) index) server

share_never : (server : Option ℕ) (index : Option (List ℕ)) → None ≡ share_by server index None
unfolding share_by
share_never None index = refl
share_never (Some server) None = refl
share_never (Some server) (Some index) = refl

-- no share is named by a number that holds a space
share_spaced : (server index number rest : List ℕ) → None ≡ share_words server index (number ++ 32 ∷ rest)
unfolding share_by
share_spaced server index number rest =
    share_never (middle_number server) (index_word index) ∙ ap (share_by (middle_number server) (index_word index)) (number_spaced (2 ^ 16 - 1) number rest)

lose_is : (server index line : List ℕ) (ws : List (List ℕ)) → join_with_byte 32 ws ≡ line → 0 < length ws → option_map (λ share. command.Call (Lose share)) (share_words server index line) ≡ lose_of (server ∷ index ∷ ws)
lose_is server index line [] is some = absurd (omega arith)
lose_is server index line (w ∷ []) is some = ap (λ l. option_map (λ share. command.Call (Lose share)) (share_words server index l)) (sym is)
lose_is server index line (w ∷ v ∷ more) is some =
    ap (option_map (λ share. command.Call (Lose share))) (ap (share_words server index) (sym is) ∙ sym (share_spaced server index w (join_with_byte 32 (v ∷ more))))

pub lose_one : (line : List ℕ) → All (λ b. b ≢ 32) line → None ≡ lose_of (words line)
lose_one line none = ap lose_of (sym (words_one line none))

pub lose_two : (line server rest : List ℕ) → IsCutAt 32 line server rest → All (λ b. b ≢ 32) rest → None ≡ lose_of (words line)
lose_two line server rest cut none = ap lose_of (sym (words_cut line server rest cut ∙ ap (λ ws. server ∷ ws) (words_one rest none)))

pub lose_line : (line server rest index number : List ℕ) (share : Option Share) → IsCutAt 32 line server rest → IsCutAt 32 rest index number → share ≡ share_words server index number
    → option_map (λ share. command.Call (Lose share)) share ≡ lose_of (words line)
lose_line line server rest index number share cut1 cut2 is =
    ap (option_map (λ share. command.Call (Lose share))) is ∙ lose_is server index number (words number) (joined_words number) (some_word number)
    ∙ ap lose_of (sym (words_cut line server rest cut1 ∙ ap (λ ws. server ∷ ws) (words_cut rest index number cut2)))

spoil_by : Option Share → Option ℕ → Option Command
spoil_by share place = option_and_then (λ share. option_map (λ place. command.Call (Spoil share place)) place) share

spoil_never : (share : Option Share) → option_and_then (λ share. option_map (λ place. command.Call (Spoil share place)) None) share ≡ None
spoil_never None = refl
spoil_never (Some share) = refl

spoil_is : (server index number line : List ℕ) (ws : List (List ℕ)) → join_with_byte 32 ws ≡ line → 0 < length ws
    → spoil_by (share_words server index number) (long_number line) ≡ spoil_of (server ∷ index ∷ number ∷ ws)
unfolding spoil_by
spoil_is server index number line [] is some = absurd (omega arith)
spoil_is server index number line (w ∷ []) is some = ap (λ l. spoil_by (share_words server index number) (long_number l)) (sym is)
spoil_is server index number line (w ∷ v ∷ more) is some =
    ap (spoil_by (share_words server index number)) (ap long_number (sym is) ∙ sym (number_spaced (2 ^ 64 - 1) w (join_with_byte 32 (v ∷ more)))) ∙ spoil_never (share_words server index number)

pub spoil_one : (line : List ℕ) → All (λ b. b ≢ 32) line → None ≡ spoil_of (words line)
spoil_one line none = ap spoil_of (sym (words_one line none))

pub spoil_two : (line server rest : List ℕ) → IsCutAt 32 line server rest → All (λ b. b ≢ 32) rest → None ≡ spoil_of (words line)
spoil_two line server rest cut none = ap spoil_of (sym (words_cut line server rest cut ∙ ap (λ ws. server ∷ ws) (words_one rest none)))

pub spoil_three : (line server l1 index l2 : List ℕ) → IsCutAt 32 line server l1 → IsCutAt 32 l1 index l2 → All (λ b. b ≢ 32) l2 → None ≡ spoil_of (words line)
spoil_three line server l1 index l2 cut1 cut2 none =
    ap spoil_of (sym (words_cut line server l1 cut1 ∙ ap (λ ws. server ∷ ws) (words_cut l1 index l2 cut2 ∙ ap (λ ws. index ∷ ws) (words_one l2 none))))

pub spoil_line : (line server l1 index l2 number place : List ℕ) (share : Option Share) (at : Option ℕ) → IsCutAt 32 line server l1 → IsCutAt 32 l1 index l2 → IsCutAt 32 l2 number place
    → share ≡ share_words server index number → at ≡ long_number place
    → option_and_then (λ share. option_map (λ place. command.Call (Spoil share place)) at) share ≡ spoil_of (words line)
unfolding spoil_by
spoil_line line server l1 index l2 number place share at cut1 cut2 cut3 first second =
    ap (λ s. spoil_by s at) first ∙ ap (spoil_by (share_words server index number)) second ∙ spoil_is server index number place (words place) (joined_words place) (some_word place)
    ∙ ap spoil_of (sym (words_cut line server l1 cut1 ∙ ap (λ ws. server ∷ ws) (words_cut l1 index l2 cut2 ∙ ap (λ ws. index ∷ ws) (words_cut l2 number place cut3))))

-- ---- the arguments of `grid`

pub grid_one : (line : List ℕ) → All (λ b. b ≢ 32) line → None ≡ grid_of (words line)
grid_one line none = ap grid_of (sym (words_one line none))

pub grid_two : (line k l1 : List ℕ) → IsCutAt 32 line k l1 → All (λ b. b ≢ 32) l1 → None ≡ grid_of (words line)
grid_two line k l1 cut none = ap grid_of (sym (words_cut line k l1 cut ∙ ap (λ ws. k ∷ ws) (words_one l1 none)))

pub grid_three : (line k l1 n l2 : List ℕ) → IsCutAt 32 line k l1 → IsCutAt 32 l1 n l2 → All (λ b. b ≢ 32) l2 → None ≡ grid_of (words line)
grid_three line k l1 n l2 cut1 cut2 none = ap grid_of (sym (words_cut line k l1 cut1 ∙ ap (λ ws. k ∷ ws) (words_cut l1 n l2 cut2 ∙ ap (λ ws. n ∷ ws) (words_one l2 none))))

pub grid_words : (line k l1 n l2 s l3 : List ℕ) (ws : List (List ℕ)) → IsCutAt 32 line k l1 → IsCutAt 32 l1 n l2 → IsCutAt 32 l2 s l3 → words l3 ≡ ws → words line ≡ k ∷ n ∷ s ∷ ws
grid_words line k l1 n l2 s l3 ws cut1 cut2 cut3 is =
    words_cut line k l1 cut1 ∙ ap (λ ws. k ∷ ws) (words_cut l1 n l2 cut2 ∙ ap (λ ws. n ∷ ws) (words_cut l2 s l3 cut3 ∙ ap (λ ws. s ∷ ws) is))

pub grid_four : (line k l1 n l2 s l3 : List ℕ) → IsCutAt 32 line k l1 → IsCutAt 32 l1 n l2 → IsCutAt 32 l2 s l3 → All (λ b. b ≢ 32) l3 → None ≡ grid_of (words line)
grid_four line k l1 n l2 s l3 cut1 cut2 cut3 none = ap grid_of (sym (grid_words line k l1 n l2 s l3 (l3 ∷ []) cut1 cut2 cut3 (words_one l3 none)))

pub grid_five : (line k l1 n l2 s l3 room secret : List ℕ) (o : Option Command) → IsCutAt 32 line k l1 → IsCutAt 32 l1 n l2 → IsCutAt 32 l2 s l3 → IsCutAt 32 l3 room secret → All (λ b. b ≢ 32) secret
    → o ≡ grid_of (k ∷ n ∷ s ∷ room ∷ secret ∷ []) → o ≡ grid_of (words line)
grid_five line k l1 n l2 s l3 room secret o cut1 cut2 cut3 cut4 none is =
    is ∙ ap grid_of (sym (grid_words line k l1 n l2 s l3 (room ∷ secret ∷ []) cut1 cut2 cut3 (words_cut l3 room secret cut4 ∙ ap (λ ws. room ∷ ws) (words_one secret none))))

six_words : (k n s room secret : List ℕ) (ws : List (List ℕ)) → 0 < length ws → None ≡ grid_of (k ∷ n ∷ s ∷ room ∷ secret ∷ ws)
six_words k n s room secret [] some = absurd (omega arith)
six_words k n s room secret (w ∷ ws) some = refl

pub grid_six : (line k l1 n l2 s l3 room l4 secret l5 : List ℕ) → IsCutAt 32 line k l1 → IsCutAt 32 l1 n l2 → IsCutAt 32 l2 s l3 → IsCutAt 32 l3 room l4 → IsCutAt 32 l4 secret l5 → None ≡ grid_of (words line)
grid_six line k l1 n l2 s l3 room l4 secret l5 cut1 cut2 cut3 cut4 cut5 =
    six_words k n s room secret (words l5) (some_word l5)
    ∙ ap grid_of (sym (grid_words line k l1 n l2 s l3 (room ∷ secret ∷ words l5) cut1 cut2 cut3 (words_cut l3 room l4 cut4 ∙ ap (λ ws. room ∷ ws) (words_cut l4 secret l5 cut5))))

-- ---- `image`, and verbs

image_more : (ws : List (List ℕ)) → 0 < length ws → None ≡ image_of ws
image_more [] some = absurd (omega arith)
image_more (w ∷ ws) some = refl

-- `image` has no arguments
pub image_line : (line : List ℕ) → None ≡ image_of (words line)
image_line line = image_more (words line) (some_word line)

-- a line's verb is looked up
pub looked_up : (line word rest : List ℕ) (verb : Option Verb) → IsCutAt 32 line word rest → verb ≡ verb_of word → option_and_then (λ known. asked_with known (words rest)) verb ≡ command_of line
looked_up line word rest verb cut is = ap (option_and_then (λ known. asked_with known (words rest))) is ∙ ap command_of_words (sym (words_cut line word rest cut))

-- also where it is the only word
pub looked_up_alone : (line : List ℕ) → All (λ b. b ≢ 32) line → command_of_words (line ∷ []) ≡ command_of line
looked_up_alone line none = ap command_of_words (sym (words_one line none))
