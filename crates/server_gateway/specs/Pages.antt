-- Which files of a folder are pages, and where they are read.
use Rattle.std.specs.Prelude.{◌≡◌, ◌≤◌, ℕ, Bool, not, nat_eq, ◌||◌, ◌==◌, List, ◌++◌, length, bytes_eq, codes, if◌then◌else◌, Option, Some, None}
use Rattle.std.specs.List.{list_all, ends_with}
use Rattle.std.specs.Char.{is_ascii_alphanumeric}
use Rattle.web_replies.specs.declared.reply.MediaType.{MediaType}
use Rattle.web_replies.specs.declared.reply.MediaType.TheVariants.{PlainText, Json, Html, Css, JavaScript, Svg, Png}
use Rattle.gate_base.specs.declared.pages.Page.{Page}

-- a letter or a digit of ASCII, `.`, `-` or `_`
abbrev pub is_page_byte : ℕ → Bool
is_page_byte b = is_ascii_alphanumeric b || b == 46 || b == 45 || b == 95

-- what a file is by the end of its name
abbrev pub kind_by_end : List ℕ → Option MediaType
kind_by_end name =
    if ends_with nat_eq name (codes ".html") then Some Html
    else if ends_with nat_eq name (codes ".css") then Some Css
    else if ends_with nat_eq name (codes ".js") then Some JavaScript
    else if ends_with nat_eq name (codes ".svg") then Some Svg
    else if ends_with nat_eq name (codes ".png") then Some Png
    else if ends_with nat_eq name (codes ".json") then Some Json
    else if ends_with nat_eq name (codes ".txt") then Some PlainText
    else None

-- what a page is by its name, and none where a file of that name is no page
abbrev pub page_kind : List ℕ → Option MediaType
page_kind name = if list_all is_page_byte name then kind_by_end name else None

-- where it is read: `index.html` at `/`, and each other one under its name
abbrev pub page_path : List ℕ → List ℕ
page_path name = if bytes_eq name (codes "index.html") then codes "/" else codes "/" ++ name

-- the page that a file of this name is
pub record IsPageOf (name : List ℕ) (page : Page) : Type 0 where
  pub path : page.path ≡ page_path name
  pub kind : page_kind name ≡ Some page.kind
  pub fits : length page.body ≤ 1048576

-- a page that a file of some name is
abbrev pub IsFilePage : Page → Type 0
IsFilePage page = (name : List ℕ) × IsPageOf name page
