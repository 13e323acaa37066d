-- The tokens of a text that is cut at a comma, from those of its two parts.
use Rattle.std.specs.Prelude.{List, [], ◌∷◌, ◌++◌, Option, Some, None}
use Rattle.std.specs.List.{fold}
use Rattle.json.specs.Token.{Token, begin_object, end_object, begin_array, end_array, key, string, number, boolean, null, bad}

-- the last token, where there is one
abbrev pub last_token : List Token → Option Token
last_token tokens = fold (λ _ token. Some token) None tokens

-- Behind a value and a comma: the tokens of the rest, which begins with a value or a key, else a fault.
abbrev pub behind_comma : List Token → List Token
behind_comma [] = bad ∷ []
behind_comma (begin_object ∷ ts) = begin_object ∷ ts
behind_comma (end_object ∷ ts) = bad ∷ []
behind_comma (begin_array ∷ ts) = begin_array ∷ ts
behind_comma (end_array ∷ ts) = bad ∷ []
behind_comma (key s ∷ ts) = key s ∷ ts
behind_comma (string s ∷ ts) = string s ∷ ts
behind_comma (number s ∷ ts) = number s ∷ ts
behind_comma (boolean b ∷ ts) = boolean b ∷ ts
behind_comma (null ∷ ts) = null ∷ ts
behind_comma (bad ∷ ts) = bad ∷ ts

-- What comes behind the last token of the first part: nothing behind a fault; the rest behind a value; and a fault where
-- no value stands before the comma.
abbrev pub from_comma : Option Token → List Token → List Token
from_comma None rest = bad ∷ []
from_comma (Some begin_object) rest = bad ∷ []
from_comma (Some end_object) rest = behind_comma rest
from_comma (Some begin_array) rest = bad ∷ []
from_comma (Some end_array) rest = behind_comma rest
from_comma (Some (key s)) rest = bad ∷ []
from_comma (Some (string s)) rest = behind_comma rest
from_comma (Some (number s)) rest = behind_comma rest
from_comma (Some (boolean b)) rest = behind_comma rest
from_comma (Some null) rest = behind_comma rest
from_comma (Some bad) rest = []

-- the tokens of the first part, a comma and the rest
abbrev pub seam : List Token → List Token → List Token
seam front rest = front ++ from_comma (last_token front) rest
