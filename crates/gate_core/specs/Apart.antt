-- The strings that are hashed in some callers' part of a run, and the premise that no two of them collide.
use Rattle.std.specs.Prelude.{ℕ, List, [], ◌∷◌, ◌++◌, Bool, filter, flat_map, Option, Some, None}
use Rattle.tag_hash.specs.Use.{Use}
use Rattle.tag_hash.specs.Collisions.{NoCollision}
use Rattle.caps.specs.declared.cap.Cap.{Cap}
use Rattle.caps.specs.declared.cap.Cap.TheVariants.{Chk, Lit, DirChk, DirLit, ChkVerify, DirChkVerify}
use Rattle.caps.specs.declared.cap.VerifyCap.{VerifyCap}
use Rattle.caps.specs.StorageIndex.{index_use}
use Rattle.caps.specs.Weakening.{weakened}
use Rattle.chk_file.specs.Upload.{Upload, index}
use Rattle.file_shares.specs.Numbers.{params_of}
use Rattle.chk_file.specs.Uses.{upload_uses}
use Rattle.file_shares.specs.Row.{row_uses}
use Rattle.chk_file.specs.Marks.{marks_of, shown_row}
use Rattle.chk_file.specs.World.{World}
use Rattle.chk_file.specs.Look.{by_held}
use Rattle.gate_core.specs.Settings.{GatewaySettings}
use Rattle.gate_core.specs.Items.{Entry}
use Rattle.gate_core.specs.Runs.{after_entry}
use Rattle.gate_core.specs.Reach.{met_by, is_reached, reach, kept}
use Rattle.gate_core.specs.Uploaded.{uploads_of}

-- what is hashed to encode the uploads under indexes that were reached
abbrev pub reached_uses : List Cap → List Upload → List Use
reached_uses reached uploads = flat_map upload_uses (filter (λ u. is_reached reached (index u)) uploads)

-- what is hashed for the storage index of a read cap
abbrev pub key_uses : Cap → List Use
key_uses (Chk fields) = index_use fields.key ∷ []
key_uses (Lit bytes) = []
key_uses (DirChk fields) = index_use fields.key ∷ []
key_uses (DirLit bytes) = []
key_uses (ChkVerify fields) = []
key_uses (DirChkVerify fields) = []

abbrev pub verify_uses : World → Option VerifyCap → List Use
verify_uses w None = []
verify_uses w (Some v) = row_uses (params_of v.fields.k v.fields.n v.fields.size) (shown_row (marks_of w.marks v.fields.si))

-- what is hashed to verify what stands under the storage index of a cap
abbrev pub stood_uses : World → Cap → List Use
stood_uses w name = verify_uses w (weakened name)

-- and that of each cap that these callers' items met, in the world before each
abbrev pub met_uses : GatewaySettings → (ℕ → Bool) → World → List Entry → List Use
met_uses settings callers w [] = []
met_uses settings callers w (x ∷ more) =
    flat_map (stood_uses w) (met_by (by_held w) callers x) ++ met_uses settings callers (after_entry settings x w) more

-- What is hashed in these callers' part of a run, in a world that the items of `past` left: to encode what was uploaded
-- in the past under an index that they reach and what the kept items upload, for the storage index of each read cap that
-- they reach, and to verify what stands under the index of each cap that they met.
abbrev pub hashed : GatewaySettings → (ℕ → Bool) → List Entry → World → List Entry → List Use
hashed settings callers past w entries =
    let reached = reach settings callers w entries in
    reached_uses reached (uploads_of settings past)
    ++ (flat_map upload_uses (uploads_of settings (kept settings callers w entries))
    ++ (flat_map key_uses reached ++ met_uses settings callers w entries))

-- no two of these strings collide
abbrev pub Apart : GatewaySettings → (ℕ → Bool) → List Entry → World → List Entry → Type 0
Apart settings callers past w entries = NoCollision (hashed settings callers past w entries)
