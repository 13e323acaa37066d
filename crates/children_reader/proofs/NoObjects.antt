-- JSON that begins with no object names no children.
use Rattle.std.proofs.Common.{◌≡◌, ℕ, zero, suc, Bool, true, false, cond, List, [], ◌∷◌, length, Option, Some, None, option_map, option_and_then, refl, ap}
use Rattle.std.specs.Result.{result_ok}
use Rattle.std.specs.Str.{is_utf8}
use Rattle.json.specs.Token.{Token}
use Rattle.json.specs.Lex.{tokens}
use Rattle.json.specs.Json as json
use Rattle.json.specs.Json.{Parse, parse_map, value_with, value, if_last}
use Rattle.json_members.specs.MemberCuts.{first_token}
use Rattle.serde_json.specs.Data.{Num, Data, number, array, Items, Members}
use Rattle.serde_json.specs.Find.{as_object}
use Rattle.serde_json.specs.Read.{number_of, of_json, of_items, max_depth, read}
use Rattle.json_spelling.specs.Metadata.{json_of}
use Rattle.children_reader.specs.Children.{then_make, or_dir_fault, making_after, making, made}
use Rattle.dir_codec.specs.declared.fault.DirFault.TheVariants.{NotJson, BadShape}

-- the members of the object that was read, with nothing left
abbrev object_in : Option (json.Json × List Token) → Option Members
object_in o = option_and_then as_object (option_and_then of_json (option_and_then (λ p. if_last p.0 p.1) o))

of_number : (o : Option Num) → option_and_then as_object (option_map number o) ≡ None
of_number None = refl
of_number (Some n) = refl

of_array : (o : Option Items) → option_and_then as_object (option_map array o) ≡ None
of_array None = refl
of_array (Some ds) = refl

number_in : (s : List ℕ) (ts : List Token) → object_in (Some (json.number s, ts)) ≡ None
number_in s [] = of_number (number_of s)
number_in s (t ∷ ts) = refl

string_in : (s : List ℕ) (ts : List Token) → object_in (Some (json.string s, ts)) ≡ None
string_in s [] = refl
string_in s (t ∷ ts) = refl

boolean_in : (b : Bool) (ts : List Token) → object_in (Some (json.boolean b, ts)) ≡ None
boolean_in b [] = refl
boolean_in b (t ∷ ts) = refl

null_in : (ts : List Token) → object_in (Some (json.null, ts)) ≡ None
null_in [] = refl
null_in (t ∷ ts) = refl

ended : (js : json.Items) (ts : List Token) → object_in (Some (json.array js, ts)) ≡ None
ended js [] = of_array (of_items js)
ended js (t ∷ ts) = refl

array_in : (o : Option (json.Items × List Token)) → object_in (parse_map json.array o) ≡ None
array_in None = refl
array_in (Some p) = ended p.0 p.1

other_value : (items : Parse json.Items) (members : Parse json.Members) (ts : List Token) → (first_token ts ≡ Some Token.begin_object → ⊥) → object_in (value_with items members ts) ≡ None
other_value items members [] other = refl
other_value items members (Token.begin_object ∷ ts) other = absurd (other refl)
other_value items members (Token.end_object ∷ ts) other = refl
other_value items members (Token.begin_array ∷ ts) other = array_in (items ts)
other_value items members (Token.end_array ∷ ts) other = refl
other_value items members (Token.key s ∷ ts) other = refl
other_value items members (Token.string s ∷ ts) other = string_in s ts
other_value items members (Token.number s ∷ ts) other = number_in s ts
other_value items members (Token.boolean b ∷ ts) other = boolean_in b ts
other_value items members (Token.null ∷ ts) other = null_in ts
other_value items members (Token.bad ∷ ts) other = refl

at_depth : (depth : ℕ) (ts : List Token) → (first_token ts ≡ Some Token.begin_object → ⊥) → object_in (value depth ts) ≡ None
unfolding value
at_depth zero ts other = other_value (λ ts. None) (λ ts. None) ts other
at_depth (suc depth) ts other = other_value (λ ts. json.items (value depth) (length ts) ts) (λ ts. json.members (value depth) (length ts) ts) ts other

if_text : (b : Bool) (o : Option Data) → option_and_then as_object o ≡ None → option_and_then as_object (cond b o None) ≡ None
if_text true o none = none
if_text false o none = refl

unnamed : (o : Option Data) → option_and_then as_object o ≡ None → result_ok (then_make (λ d. then_make (making_after []) (or_dir_fault BadShape (as_object d))) (or_dir_fault NotJson o)) ≡ None
unnamed None none = refl
unnamed (Some d) none = ap (λ o. result_ok (then_make (making_after []) (or_dir_fault BadShape o))) none

pub none_made : (json : List ℕ) → (first_token (tokens json) ≡ Some Token.begin_object → ⊥) → made json ≡ None
unfolding made making json_of
none_made json other = unnamed (json_of json) (if_text (is_utf8 json) (read json) (at_depth max_depth (tokens json) other))
