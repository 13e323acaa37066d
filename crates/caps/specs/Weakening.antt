-- What a cap can be weakened to (Tahoe-LAFS's uri document).
use Rattle.std.specs.Prelude.{true, false, if◌then◌else◌, Option, Some, None}
use Rattle.caps.specs.Fields.{ReadValue, VerifyValue}
use Rattle.caps.specs.StorageIndex.{index_of}
use Rattle.caps.specs.declared.cap.Cap.{Cap}
use Rattle.caps.specs.declared.cap.Cap.TheVariants.{Chk, Lit, DirChk, DirLit, ChkVerify, DirChkVerify}
use Rattle.caps.specs.declared.cap.VerifyCap.{VerifyCap}

-- the storage index in place of the key
abbrev pub verify_fields : ReadValue → VerifyValue
verify_fields f = record { si = index_of f.key; ueb = f.ueb; k = f.k; n = f.n; size = f.size }

-- the verify cap of a cap
abbrev pub weakened : Cap → Option VerifyCap
weakened (Chk fields) = Some (record { directory = false; fields = verify_fields fields })
weakened (Lit bytes) = None
weakened (DirChk fields) = Some (record { directory = true; fields = verify_fields fields })
weakened (DirLit bytes) = None
weakened (ChkVerify fields) = Some (record { directory = false; fields = fields })
weakened (DirChkVerify fields) = Some (record { directory = true; fields = fields })

-- the cap that a verify cap is
abbrev pub cap_of : VerifyCap → Cap
cap_of verify = if verify.directory then DirChkVerify verify.fields else ChkVerify verify.fields
