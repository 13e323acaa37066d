use Rattle.std.proofs.Common.{◌≡◌, ℕ, List, [], ◌∷◌, ◌++◌, decimal, refl, ap, ◌∙◌}
use Rattle.percent_encoding.specs.Percent.{percent_encode}
use Rattle.caps.specs.CapTexts.{cap_text}
use Rattle.client_tasks.specs.State.{escaped_bytes, state_line}
use Rattle.client_tasks.proofs.Lines.{seven}
use Rattle.client_tasks.proofs.state.line_of.Goals as goal

pub returns : goal.returns
unfolding state_line
returns c =
    let size : List ℕ = decimal c.args.stamp.now.size in
    let time : List ℕ = decimal c.args.stamp.now.time in
    let space : List ℕ = 32 ∷ [] in
    let place : c.as_bytes.result.now ≡ percent_encode escaped_bytes c.args.path.now =
    rw (c.as_bytes.ensures.value, c.in_ok-append_to.ensures.ok, c.new-place.ensures.bytes, c.percent_encode.ensures.text) refl in
    let cap : c.as_bytes-2.result.now ≡ cap_text c.args.cap.now = c.as_bytes-2.ensures.value ∙ c.caps_have_one_text.ensures.one c.args.cap.now _ c.in_ok-cap.ensures in
    seven size space time space (percent_encode escaped_bytes c.args.path.now) space (cap_text c.args.cap.now) _ _ _ _ _ _ _
    (c.in_ok-push_number.ensures ∙ ap (λ (l : List ℕ). l ++ size) c.new-line.ensures.items)
    c.in_ok-extend_from_slice.ensures.items
    c.in_ok-push_number-2.ensures
    c.in_ok-extend_from_slice-2.ensures.items
    (c.in_ok-extend_from_slice-3.ensures.items ∙ ap (λ (l : List ℕ). c.extend_from_slice-2.new.self.items ++ l) place)
    c.in_ok-extend_from_slice-4.ensures.items
    (c.in_ok-extend_from_slice-5.ensures.items ∙ ap (λ (l : List ℕ). c.extend_from_slice-4.new.self.items ++ l) cap)
