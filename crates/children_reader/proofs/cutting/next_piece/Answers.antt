use Rattle.std.proofs.Common.{◌+◌, ◌≤◌, ◌∷◌, [], ◌++◌, length, refl, ap, ◌∙◌, arith}
use Rattle.json.specs.Lex.{between}
use Rattle.json_seams.specs.Modes.{mode_after, is_outside}
use Rattle.children_reader.proofs.Windows.{FrontLaws, piece_cut, piece_last, piece_to_comma, looked_to}
use Rattle.json_spelling.proofs.CutPlaces.{window}
use Rattle.children_reader.proofs.cutting.next_piece.Goals as goal

pub returns-in-Some : goal.returns-in-Some
returns-in-Some c =
    let looked = c.args.looked.now in
    let before = c.requires in
    let search = before.searched in
    let first = search.ahead in
    let parts = c.member_cuts_are_found_in_parts.ensures in
    let laws : FrontLaws = record { in_front = λ front back at before is. (parts.in_front _ _ front back at before).0 is; same = parts.front_same } in
    let text = c.in_ok-push.ensures.items ∙ ap (λ t. t ++ 125 ∷ []) c.in_ok-text.ensures.items in (
      piece_cut c.args.json.now c.push.new.self.items looked.at looked.end looked.search.reached looked.scanner.mode looked.scanner.depth before.read before.begun first laws c.step-comma.new.self.reached c.in-Some.last
          c.step-comma.ensures.behind c.step-comma.ensures.within c.in-Some.ensures.cut.0 text,
      omega arith,
    )

pub returns-in-Some-comma : goal.returns-in-Some-comma
returns-in-Some-comma c =
    let json = c.args.json.now in
    let looked = c.args.looked.now in
    let before = c.requires in
    let comma = c.in-Some-comma.comma in
    let found = c.in-Some-comma.ensures.cut in
    let cut = found.2 looked.end before.searched in
    let parts = c.member_cuts_are_found_in_parts.ensures in
    let place = comma + 1 in
    let near = window looked.search.reached place json in
    let next = c.last_cut.new.self in
    let reached = c.new.ensures.reached in
    let stop = c.step-comma.ensures.within in
    let within : place ≤ length json = omega (arith, found.1, stop) in
    let begun = before.begun in
    let first = before.searched.ahead in
    let same = c.in_ok-text-2.ensures.items in
    record {
      same = refl;
      ahead = omega (arith, found.0, first);
      further = omega (arith, found.0, reached);
      bytes = piece_to_comma json _ looked.end comma cut same;
      outside = ap (λ t. is_outside (mode_after between t)) same ∙ cut.comma.outside;
      looked_on = record {
        begun = omega (arith, found.0, first, begun);
        searched = c.new.ensures.searched json within;
        read =
            looked_to json looked.at looked.search.reached place c.new.result.reached looked.scanner.mode next.mode looked.scanner.depth next.depth (omega (arith, found.0)) within reached c.last_cut.ensures.mode c.last_cut.ensures.depth
            (parts.bounded looked.scanner.mode looked.scanner.depth near) (λ bytes at. (parts.places looked.scanner.mode looked.scanner.depth near bytes at).0) before.read;
      };
    }

pub returns-then-search-json : goal.returns-then-search-json
returns-then-search-json c =
    let json = c.args.json.now in
    let looked = c.args.looked.now in
    let before = c.requires in
    let parts = c.member_cuts_are_found_in_parts.ensures in
    let search = c.step-comma.new.self in
    let next = c.last_cut-last.new.self in
    let near = window looked.search.reached search.reached json in (
      record {
        begun = before.begun;
        searched = c.step-comma.ensures.searched looked.end before.searched;
        read =
            looked_to json looked.at looked.search.reached search.reached search.reached looked.scanner.mode next.mode looked.scanner.depth next.depth c.step-comma.ensures.behind c.step-comma.ensures.within refl c.in_default.ensures.mode c.in_default.ensures.depth
            (parts.bounded looked.scanner.mode looked.scanner.depth near) (λ bytes at. (parts.places looked.scanner.mode looked.scanner.depth near bytes at).0) before.read;
      },
      refl,
      refl,
      omega arith,
    )

pub returns : goal.returns
returns c =
    let json = c.args.json.now in
    let looked = c.args.looked.now in
    let before = c.requires in
    let first = before.searched.ahead in
    let last = before.searched.within in
    (piece_last json _ looked.at looked.end before.begun (omega (arith, first, last)) c.in_ok-text-3.ensures.items, tt)
