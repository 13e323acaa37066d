-- What caps of each kind give.
use Rattle.std.specs.Prelude.{Bool, true, false}
use Rattle.caps.specs.declared.cap.Cap.{Cap}
use Rattle.caps.specs.declared.cap.Cap.TheVariants.{Chk, Lit, DirChk, DirLit, ChkVerify, DirChkVerify}

-- tells good shares from bad, and reads nothing
abbrev pub is_verify_cap : Cap → Bool
is_verify_cap (Chk fields) = false
is_verify_cap (Lit bytes) = false
is_verify_cap (DirChk fields) = false
is_verify_cap (DirLit bytes) = false
is_verify_cap (ChkVerify fields) = true
is_verify_cap (DirChkVerify fields) = true
