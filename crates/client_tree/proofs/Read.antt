-- A file that is stored while it is read.
use Rattle.std.proofs.Common.{◌≡◌, ℕ, ◌+◌, ◌<◌, List, [], ◌∷◌, ◌++◌, length, refl, sym, ap, ◌∙◌, subst, inl, inr, append-nil, length-append}
use Rattle.std.specs.List.{concat}
use Rattle.caps.specs.declared.cap.Cap.{Cap}
use Rattle.cap_binding.specs.Binds.{AreFileOf}
use Rattle.client_tree.specs.Parts.{part_bytes, AreParts, AreFilesOf, caps_of}
use Rattle.client_tree.specs.Runs.{File}
use Rattle.client_tree.specs.Joined.{pieces_at}
use Rattle.client_tree.specs.Stored.{HasParts, IsStoredWhole, IsStoredAt, IsStoredFrom}
use Rattle.client_tree.proofs.Joined.{one_more_file, files_more, concat_more}
use Rattle.client_tree.proofs.PartSizes.{all_pieces_have}

-- the pieces of the file under that path that came so far, which are of these caps and have so many bytes
pub record IsReadSoFar (path : List (List ℕ)) (caps : List Cap) (size : ℕ) (files : List File) : Type 0 where
  pub pieces : List (List ℕ)
  pub files_are : files ≡ pieces_at path pieces
  pub bound : AreFilesOf caps pieces
  pub size_is : size ≡ length (concat pieces)

pub none_read : (path : List (List ℕ)) → IsReadSoFar path [] 0 []
none_read path = record { pieces = []; files_are = refl; bound = tt; size_is = refl }

pub one_more_read : (path : List (List ℕ)) (caps : List Cap) (cap : Cap) (size : ℕ) (files : List File) (piece : List ℕ) → AreFileOf cap piece
    → IsReadSoFar path caps size files → IsReadSoFar path (caps ++ cap ∷ []) (size + length piece) (files ++ record { path = path; bytes = piece } ∷ [])
one_more_read path caps cap size files piece is before = record {
  pieces = before.pieces ++ piece ∷ [];
  files_are = ap (λ (fs : List File). fs ++ record { path = path; bytes = piece } ∷ []) before.files_are ∙ sym (files_more path before.pieces piece);
  bound = one_more_file caps cap before.pieces piece before.bound is;
  size_is =
      ap (λ (n : ℕ). n + length piece) before.size_is
      ∙ sym (ap length (concat_more before.pieces piece) ∙ length-append (concat before.pieces) piece);
}

-- all that came, with the last piece
pub all_read : (path : List (List ℕ)) (caps : List Cap) (size : ℕ) (cap : Cap) (files : List File) (piece : List ℕ) → length piece < part_bytes
    → ((pieces : List (List ℕ)) → AreFilesOf caps pieces → size ≡ length (concat pieces) → IsStoredWhole cap (concat pieces ++ piece))
    → IsReadSoFar path caps size files → IsStoredAt cap path (files ++ record { path = path; bytes = piece } ∷ [])
all_read path caps size cap files piece short stored before = record {
  pieces = before.pieces;
  end = piece;
  short = short;
  files_are = ap (λ (fs : List File). fs ++ record { path = path; bytes = piece } ∷ []) before.files_are ∙ sym (files_more path before.pieces piece);
  stored = subst (λ (bs : List ℕ). IsStoredWhole cap bs) (sym (concat_more before.pieces piece)) (stored before.pieces before.bound before.size_is);
}

-- the same before the piece that came last, where another one came first
pub record IsReadUpTo (path : List (List ℕ)) (caps : List Cap) (size : ℕ) (first piece : List ℕ) (files : List File) : Type 0 where
  pub before : List File
  pub read : IsReadSoFar path caps size before
  pub files_are : record { path = path; bytes = first } ∷ files ≡ before ++ record { path = path; bytes = piece } ∷ []

pub first_read : (path : List (List ℕ)) (first : List ℕ) → IsReadUpTo path [] 0 first first []
first_read path first = record { before = []; read = none_read path; files_are = refl }

pub next_read : (path : List (List ℕ)) (caps : List Cap) (cap : Cap) (size : ℕ) (first piece next : List ℕ) (files : List File) → AreFileOf cap piece
    → IsReadUpTo path caps size first piece files → IsReadUpTo path (caps ++ cap ∷ []) (size + length piece) first next (files ++ record { path = path; bytes = next } ∷ [])
next_read path caps cap size first piece next files is up = record {
  before = up.before ++ record { path = path; bytes = piece } ∷ [];
  read = one_more_read path caps cap size up.before piece is up.read;
  files_are = ap (λ (fs : List File). fs ++ record { path = path; bytes = next } ∷ []) up.files_are;
}

pub last_read : (path : List (List ℕ)) (caps : List Cap) (size : ℕ) (cap : Cap) (first piece : List ℕ) (files : List File) → length piece < part_bytes
    → ((pieces : List (List ℕ)) → AreFilesOf caps pieces → size ≡ length (concat pieces) → IsStoredWhole cap (concat pieces ++ piece))
    → IsReadUpTo path caps size first piece files → IsStoredFrom cap path first files
last_read path caps size cap first piece files short stored up =
    subst (λ (fs : List File). IsStoredAt cap path fs) (sym up.files_are) (all_read path caps size cap up.before piece short stored up.read)

-- a directory of parts is of the pieces that its parts are of
pub parts_stored : (caps : List Cap) (size : ℕ) (cap : Cap) (pieces : List (List ℕ)) → HasParts caps size cap → AreFilesOf caps pieces → IsStoredWhole cap (concat pieces)
parts_stored caps size cap pieces has bound =
    let own : AreFilesOf (caps_of has.entries) pieces = subst (λ (cs : List Cap). AreFilesOf cs pieces) (sym has.caps_are) bound in
    inr (record {
      entries = has.entries;
      directory = has.directory;
      parts = subst (λ (n : ℕ). AreParts n has.entries) (sym (all_pieces_have size has.entries pieces has.parts own)) has.parts;
      pieces = pieces;
      bound = own;
      joined = refl;
    })

-- the same with one more piece
pub more_parts_stored : (caps : List Cap) (last cap : Cap) (size : ℕ) (pieces : List (List ℕ)) (piece : List ℕ)
    → HasParts (caps ++ last ∷ []) size cap → AreFilesOf caps pieces → AreFileOf last piece → IsStoredWhole cap (concat pieces ++ piece)
more_parts_stored caps last cap size pieces piece has bound is =
    subst (λ (bs : List ℕ). IsStoredWhole cap bs) (concat_more pieces piece)
    (parts_stored (caps ++ last ∷ []) size cap (pieces ++ piece ∷ []) has (one_more_file caps last pieces piece bound is))

-- a file that came in one piece
pub only_stored : (cap copy : Cap) (pieces : List (List ℕ)) → copy ≡ cap → AreFilesOf (cap ∷ []) pieces → IsStoredWhole copy (concat pieces)
only_stored cap copy [] same bound = absurd bound
only_stored cap copy (piece ∷ []) same bound =
    inl (subst (λ (c : Cap). AreFileOf c (piece ++ [])) (sym same) (subst (λ (bs : List ℕ). AreFileOf cap bs) (sym (append-nil piece)) bound.0))
only_stored cap copy (piece ∷ other ∷ more) same bound = absurd bound.1

-- a file that has one piece, which is the last
pub last_stored : (cap : Cap) (caps : List Cap) (pieces : List (List ℕ)) (piece : List ℕ) → caps ≡ [] → AreFilesOf caps pieces → AreFileOf cap piece → IsStoredWhole cap (concat pieces ++ piece)
last_stored cap [] [] piece e bound is = inl is
last_stored cap [] (other ∷ more) piece e bound is = absurd bound
last_stored cap (first ∷ caps) pieces piece e bound is = absurd (cc)
