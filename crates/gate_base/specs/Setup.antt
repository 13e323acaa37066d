-- What a gateway is set up with.
use Rattle.std.specs.Prelude.{ℕ, Bool, List}
use Rattle.gate_base.specs.declared.pages.Page.{Page}

-- of a file's n shares any k give it back, this secret goes into the keys of callers that were opened with none of their
-- own, these pages stand beside the web API, and replies are made for browsers, or not
pub record Setup : Type 0 where
  pub k : ℕ
  pub n : ℕ
  pub secret : List ℕ
  pub pages : List Page
  pub for_browsers : Bool
