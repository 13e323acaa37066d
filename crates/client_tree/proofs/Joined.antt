-- Pieces of files, one after the other.
use Rattle.std.proofs.Common.{◌≡◌, ℕ, List, [], ◌∷◌, ◌++◌, take, drop, refl, sym, ap, ◌∙◌, subst, append-nil, append_assoc}
use Rattle.std.proofs.lemmas.List.{take-append-drop}
use Rattle.std.specs.List.{concat}
use Rattle.caps.specs.declared.cap.Cap.{Cap}
use Rattle.dir_codec.specs.declared.entry.Entry.{Entry}
use Rattle.cap_binding.specs.Binds.{AreFileOf}
use Rattle.client_core.specs.Way.{IsDirectoryOf}
use Rattle.client_tree.specs.Runs.{File}
use Rattle.client_tree.specs.Parts.{AreParts, AreFilesOf, caps_of}
use Rattle.client_tree.specs.Joined.{pieces_at, ArePiecesAt, AreFirstPiecesAt, IsJoinedFile}
use Rattle.client_tree.proofs.PartSizes.{all_pieces_have}

-- one more piece of one more cap
pub one_more_file : (caps : List Cap) (cap : Cap) (pieces : List (List ℕ)) (piece : List ℕ) → AreFilesOf caps pieces → AreFileOf cap piece → AreFilesOf (caps ++ cap ∷ []) (pieces ++ piece ∷ [])
one_more_file [] cap [] piece before is = (is, tt)
one_more_file [] cap (first ∷ pieces) piece before is = absurd before
one_more_file (other ∷ caps) cap [] piece before is = absurd before
one_more_file (other ∷ caps) cap (first ∷ pieces) piece before is = (before.0, one_more_file caps cap pieces piece before.1 is)

caps_more : (entries : List Entry) (entry : Entry) → caps_of (entries ++ entry ∷ []) ≡ caps_of entries ++ entry.cap ∷ []
caps_more [] entry = refl
caps_more (first ∷ more) entry = ap (λ (cs : List Cap). first.cap ∷ cs) (caps_more more entry)

pub files_more : (path : List (List ℕ)) (pieces : List (List ℕ)) (piece : List ℕ) → pieces_at path (pieces ++ piece ∷ []) ≡ pieces_at path pieces ++ record { path = path; bytes = piece } ∷ []
files_more path [] piece = refl
files_more path (first ∷ pieces) piece = ap (λ (fs : List File). record { path = path; bytes = first } ∷ fs) (files_more path pieces piece)

pub concat_more : (pieces : List (List ℕ)) (piece : List ℕ) → concat (pieces ++ piece ∷ []) ≡ concat pieces ++ piece
concat_more [] piece = append-nil piece
concat_more (first ∷ pieces) piece = ap (λ (bs : List ℕ). first ++ bs) (concat_more pieces piece) ∙ sym (append_assoc first (concat pieces) piece)

-- no pieces of no entries
pub no_pieces : (path : List (List ℕ)) → ArePiecesAt path [] []
no_pieces path = record { pieces = []; bound = tt; files_are = refl }

-- one more piece, of one more entry
pub one_more_piece : (path : List (List ℕ)) (entries : List Entry) (entry : Entry) (files : List File) (piece : List ℕ)
    → ArePiecesAt path entries files → AreFileOf entry.cap piece → ArePiecesAt path (entries ++ entry ∷ []) (files ++ record { path = path; bytes = piece } ∷ [])
one_more_piece path entries entry files piece before is = record {
  pieces = before.pieces ++ piece ∷ [];
  bound = subst (λ (cs : List Cap). AreFilesOf cs (before.pieces ++ piece ∷ [])) (sym (caps_more entries entry)) (one_more_file (caps_of entries) entry.cap before.pieces piece before.bound is);
  files_are = ap (λ (fs : List File). fs ++ record { path = path; bytes = piece } ∷ []) before.files_are ∙ sym (files_more path before.pieces piece);
}

-- all pieces of a file in parts
pub whole_file : (cap : Cap) (path : List (List ℕ)) (size : ℕ) (entries : List Entry) (files : List File)
    → IsDirectoryOf cap entries → AreParts size entries → ArePiecesAt path entries files → IsJoinedFile cap path files
whole_file cap path size entries files directory parts all = record {
  bytes = concat all.pieces;
  cut = record {
    entries = entries;
    directory = directory;
    parts = subst (λ (n : ℕ). AreParts n entries) (sym (all_pieces_have size entries all.pieces parts all.bound)) parts;
    pieces = all.pieces;
    bound = all.bound;
    joined = refl;
  };
  files_are = all.files_are;
}

-- the pieces of the first entries
pub first_pieces : (path : List (List ℕ)) (entries all : List Entry) (i : ℕ) (files : List File) → entries ≡ all → ArePiecesAt path (take i entries) files → AreFirstPiecesAt path all files
first_pieces path entries all i files same at_path = record {
  first = take i entries;
  rest = drop i entries;
  entries_are = sym same ∙ sym (take-append-drop i entries);
  at_path = at_path;
}
