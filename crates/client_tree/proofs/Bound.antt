-- The files of a tree are bound to its cap.
use Rattle.std.proofs.Common.{◌≡◌, ℕ, List, [], ◌∷◌, ◌++◌, length, refl, sym, ◌∙◌, subst, append-nil, append_assoc, inl, inr, arith, take, drop}
use Rattle.std.proofs.lemmas.List.{take-append-drop}
use Rattle.std.specs.Prelude.{All, Contains}
use Rattle.std.proofs.lemmas.List.Elements.{All-nil, All-append, All-cons, All-weaker, Contains-append_left, Contains-append_right}
use Rattle.caps.specs.declared.cap.Cap.{Cap}
use Rattle.dir_codec.specs.declared.entry.Entry.{Entry}
use Rattle.cap_binding.specs.Binds.{AreFileOf}
use Rattle.client_core.specs.Way.{IsDirectoryOf, IsChildOf}
use Rattle.client_tree.specs.Runs.{File}
use Rattle.client_tree.specs.Parts.{AreFilesOf, caps_of, AreParts}
use Rattle.client_tree.specs.Joined.{pieces_at, AreFirstPiecesAt, IsJoinedFile}
use Rattle.client_tree.specs.Trees.{IsBoundFile, IsBoundBelow, AreTreesOf, none, file, joined, folder, IsTreeOf}

-- what the law of entries says
abbrev pub Found : Type 0
Found = (cap : Cap) (entries : List Entry) (entry : Entry) → IsDirectoryOf cap entries → Contains entries entry → IsChildOf cap entry.name entry.cap

-- a file that a cap itself is of
pub own_file : (cap : Cap) (path : List (List ℕ)) (bytes : List ℕ) → AreFileOf cap bytes → IsBoundFile cap path (record { path = path; bytes = bytes })
own_file cap path bytes of_cap = record { names = []; end = cap; led = refl; path_is = sym (append-nil path); bound = inl of_cap }

-- a piece of a file that a cap itself is of
own_piece : (cap : Cap) (path : List (List ℕ)) (size : ℕ) (entries : List Entry) (entry : Entry) (piece : List ℕ) → IsDirectoryOf cap entries → AreParts size entries
    → Contains entries entry → AreFileOf entry.cap piece → IsBoundFile cap path (record { path = path; bytes = piece })
own_piece cap path size entries entry piece directory parts among bound = record {
  names = [];
  end = cap;
  led = refl;
  path_is = sym (append-nil path);
  bound = inr (record { entries = entries; size = size; directory = directory; parts = parts; entry = entry; among = among; bound = bound });
}

-- the same of several, which stand behind others
own_pieces : (cap : Cap) (path : List (List ℕ)) (size : ℕ) (before entries after : List Entry) (pieces : List (List ℕ)) → IsDirectoryOf cap (before ++ (entries ++ after))
    → AreParts size (before ++ (entries ++ after)) → AreFilesOf (caps_of entries) pieces → All (IsBoundFile cap path) (pieces_at path pieces)
own_pieces cap path size before [] after [] directory parts bound = All-nil (IsBoundFile cap path)
own_pieces cap path size before [] after (piece ∷ pieces) directory parts bound = absurd bound
own_pieces cap path size before (entry ∷ entries) after [] directory parts bound = absurd bound
own_pieces cap path size before (entry ∷ entries) after (piece ∷ pieces) directory parts bound =
    let same : before ++ (entry ∷ (entries ++ after)) ≡ (before ++ entry ∷ []) ++ (entries ++ after) = sym (append_assoc before (entry ∷ []) (entries ++ after)) in
    let among : Contains (before ++ (entry ∷ (entries ++ after))) entry = Contains-append_right before (entry ∷ (entries ++ after)) entry (0, omega arith, refl) in
    All-cons (IsBoundFile cap path) (record { path = path; bytes = piece }) (pieces_at path pieces)
    (own_piece cap path size (before ++ (entry ∷ (entries ++ after))) entry piece directory parts among bound.0)
    (own_pieces cap path size (before ++ entry ∷ []) entries after pieces
    (subst (λ (es : List Entry). IsDirectoryOf cap es) same directory) (subst (λ (es : List Entry). AreParts size es) same parts) bound.1)

-- the first pieces of a file in parts
pub first_bound : (cap : Cap) (path : List (List ℕ)) (size : ℕ) (entries : List Entry) (files : List File) → IsDirectoryOf cap entries → AreParts size entries
    → AreFirstPiecesAt path entries files → All (IsBoundFile cap path) files
first_bound cap path size entries files directory parts of_first =
    subst (λ (fs : List File). All (IsBoundFile cap path) fs) (sym of_first.at_path.files_are)
    (own_pieces cap path size [] of_first.first of_first.rest of_first.at_path.pieces
    (subst (λ (es : List Entry). IsDirectoryOf cap es) of_first.entries_are directory)
    (subst (λ (es : List Entry). AreParts size es) of_first.entries_are parts) of_first.at_path.bound)

-- all pieces of it
joined_bound : (cap : Cap) (path : List (List ℕ)) (files : List File) → IsJoinedFile cap path files → All (IsBoundFile cap path) files
joined_bound cap path files is =
    let whole = is.cut in
    subst (λ (fs : List File). All (IsBoundFile cap path) fs) (sym is.files_are)
    (own_pieces cap path (length is.bytes) [] whole.entries [] whole.pieces
    (subst (λ (es : List Entry). IsDirectoryOf cap es) (sym (append-nil whole.entries)) whole.directory)
    (subst (λ (es : List Entry). AreParts (length is.bytes) es) (sym (append-nil whole.entries)) whole.parts) whole.bound)

-- what is bound below an entry of a directory is bound to the directory's cap
pub bound_above : Found → (cap : Cap) (entries : List Entry) (path : List (List ℕ)) (f : File) → IsDirectoryOf cap entries → IsBoundBelow entries path f → IsBoundFile cap path f
bound_above found cap entries path f of_cap below = record {
  names = below.entry.name ∷ below.bound.names;
  end = below.bound.end;
  led = (below.entry.cap, (found cap entries below.entry of_cap below.among, below.bound.led));
  path_is = below.bound.path_is ∙ append_assoc path (below.entry.name ∷ []) below.bound.names;
  bound = below.bound.bound;
}

-- among more entries
pub bound_among : (entries more : List Entry) (path : List (List ℕ)) (f : File) → IsBoundBelow entries path f → IsBoundBelow (entries ++ more) path f
bound_among entries more path f below = record { entry = below.entry; among = Contains-append_left entries more below.entry below.among; bound = below.bound }

-- the last of some entries is among them
pub last_among : (entries : List Entry) (entry : Entry) → Contains (entries ++ entry ∷ []) entry
last_among entries entry = Contains-append_right entries (entry ∷ []) entry (0, omega arith, refl)

-- the files of entries are bound below them
pub trees_bound : Found → {path : List (List ℕ)} {entries : List Entry} {files : List File} → AreTreesOf path entries files → All (IsBoundBelow entries path) files
trees_bound found (none path) = All-nil (IsBoundBelow [] path)
trees_bound found (file path entries files entry bytes before of_cap) =
    let all : List Entry = entries ++ entry ∷ [] in
    let one : File = record { path = path ++ entry.name ∷ []; bytes = bytes } in
    let last : IsBoundBelow all path one = record { entry = entry; among = last_among entries entry; bound = own_file entry.cap (path ++ entry.name ∷ []) bytes of_cap } in
    All-append (IsBoundBelow all path) files (one ∷ [])
    (All-weaker (IsBoundBelow entries path) (IsBoundBelow all path) (bound_among entries (entry ∷ []) path) files (trees_bound found before))
    (All-cons (IsBoundBelow all path) one [] last (All-nil (IsBoundBelow all path)))
trees_bound found (joined path entries files more entry before whole) =
    let all : List Entry = entries ++ entry ∷ [] in
    let inner : List (List ℕ) = path ++ entry.name ∷ [] in
    All-append (IsBoundBelow all path) files more
    (All-weaker (IsBoundBelow entries path) (IsBoundBelow all path) (bound_among entries (entry ∷ []) path) files (trees_bound found before))
    (All-weaker (IsBoundFile entry.cap inner) (IsBoundBelow all path) (λ f known. record { entry = entry; among = last_among entries entry; bound = known }) more
    (joined_bound entry.cap inner more whole))
trees_bound found (folder path entries children files more entry before of_cap no_parts below) =
    let all : List Entry = entries ++ entry ∷ [] in
    let inner : List (List ℕ) = path ++ entry.name ∷ [] in
    All-append (IsBoundBelow all path) files more
    (All-weaker (IsBoundBelow entries path) (IsBoundBelow all path) (bound_among entries (entry ∷ []) path) files (trees_bound found before))
    (All-weaker (IsBoundBelow children inner) (IsBoundBelow all path)
    (λ f known. record { entry = entry; among = last_among entries entry; bound = bound_above found entry.cap children inner f of_cap known })
    more (trees_bound found below))

-- the files of a cap are bound to it
pub tree_bound : Found → (cap : Cap) (path : List (List ℕ)) (files : List File) → IsTreeOf cap path files → All (IsBoundFile cap path) files
tree_bound found cap path files (inl one) =
    subst (λ (fs : List File). All (IsBoundFile cap path) fs) (sym one.one)
    (All-cons (IsBoundFile cap path) (record { path = path; bytes = one.bytes }) [] (own_file cap path one.bytes one.of_cap) (All-nil (IsBoundFile cap path)))
tree_bound found cap path files (inr (inl whole)) = joined_bound cap path files whole
tree_bound found cap path files (inr (inr all)) =
    All-weaker (IsBoundBelow all.entries path) (IsBoundFile cap path) (λ f known. bound_above found cap all.entries path f all.of_cap known) files (trees_bound found all.all)

-- the files of one more entry
pub one_more_tree : (path : List (List ℕ)) (entries : List Entry) (files more : List File) (entry : Entry)
    → AreTreesOf path entries files → IsTreeOf entry.cap (path ++ entry.name ∷ []) more → AreTreesOf path (entries ++ entry ∷ []) (files ++ more)
one_more_tree path entries files more entry before (inl one) =
    subst (λ (fs : List File). AreTreesOf path (entries ++ entry ∷ []) (files ++ fs)) (sym one.one) (file path entries files entry one.bytes before one.of_cap)
one_more_tree path entries files more entry before (inr (inl whole)) = joined path entries files more entry before whole
one_more_tree path entries files more entry before (inr (inr all)) = folder path entries all.entries files more entry before all.of_cap all.no_parts all.all

-- those of the first entries are bound below all of them
pub trees_bound_in : Found → (path : List (List ℕ)) (entries all : List Entry) (i : ℕ) (files : List File) → entries ≡ all → AreTreesOf path (take i entries) files → All (IsBoundBelow all path) files
trees_bound_in found path entries all i files same trees =
    subst (λ (es : List Entry). All (IsBoundBelow es path) files) (take-append-drop i entries ∙ same)
    (All-weaker (IsBoundBelow (take i entries) path) (IsBoundBelow (take i entries ++ drop i entries) path) (bound_among (take i entries) (drop i entries) path) files (trees_bound found trees))
