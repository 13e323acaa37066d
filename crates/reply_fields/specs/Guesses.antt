-- What a file is taken for by the end of its name: kinds in which nothing runs.
use Rattle.std.specs.Prelude.{ℕ, Bool, ◌||◌, ◌-◌, List, length, drop, codes, if◌then◌else◌, Option, Some, None}
use Rattle.octets.specs.Case.{eq_ignore_case}
use Rattle.reply_fields.specs.declared.guess.Guess.{Guess}
use Rattle.reply_fields.specs.declared.guess.Guess.TheVariants.{PlainText, Png, Jpeg, Gif, WebP, Avif, Mp4, WebM, Mp3, Ogg, Wav, Flac}

-- the name ends so, in any case
abbrev pub has_end : List ℕ → List ℕ → Bool
has_end name end = eq_ignore_case (drop (length name - length end) name) end

unfoldable pub is_text_name : List ℕ → Bool
is_text_name name = has_end name (codes ".txt") || (has_end name (codes ".md") || (has_end name (codes ".csv") || has_end name (codes ".log")))

unfoldable pub image_guess : List ℕ → Option Guess
image_guess name =
    if has_end name (codes ".png") then Some Png
    else (if has_end name (codes ".jpg") || has_end name (codes ".jpeg") then Some Jpeg
    else (if has_end name (codes ".gif") then Some Gif
    else (if has_end name (codes ".webp") then Some WebP
    else (if has_end name (codes ".avif") then Some Avif else None))))

unfoldable pub film_guess : List ℕ → Option Guess
film_guess name =
    if has_end name (codes ".mp4") then Some Mp4
    else (if has_end name (codes ".webm") then Some WebM
    else (if has_end name (codes ".mp3") then Some Mp3
    else (if has_end name (codes ".ogg") then Some Ogg
    else (if has_end name (codes ".wav") then Some Wav
    else (if has_end name (codes ".flac") then Some Flac else None)))))

-- the first that is there
abbrev pub guess_or : Option Guess → Option Guess → Option Guess
guess_or None other = other
guess_or (Some guess) other = Some guess

unfoldable pub guess_by_name : List ℕ → Option Guess
guess_by_name name = if is_text_name name then Some PlainText else guess_or (image_guess name) (film_guess name)

-- of a file that has a name
abbrev pub guess_of : Option (List ℕ) → Option Guess
guess_of None = None
guess_of (Some name) = guess_by_name name

-- the type (IANA's media types)
abbrev pub guess_type : Guess → List ℕ
guess_type PlainText = codes "text/plain; charset=utf-8"
guess_type Png = codes "image/png"
guess_type Jpeg = codes "image/jpeg"
guess_type Gif = codes "image/gif"
guess_type WebP = codes "image/webp"
guess_type Avif = codes "image/avif"
guess_type Mp4 = codes "video/mp4"
guess_type WebM = codes "video/webm"
guess_type Mp3 = codes "audio/mpeg"
guess_type Ogg = codes "audio/ogg"
guess_type Wav = codes "audio/wav"
guess_type Flac = codes "audio/flac"
