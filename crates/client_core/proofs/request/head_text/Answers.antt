use Rattle.std.proofs.Common.{◌≡◌, ◌++◌, ap, ◌∙◌}
use Rattle.client_core.specs.Asks.{method_of}
use Rattle.client_core.proofs.HeadWritten.{written}
use Rattle.client_core.proofs.request.head_text.Goals as goal

pub returns : goal.returns
returns c =
    let first : c.extend_from_slice.new.self.items ≡ method_of c.args.ask.now = c.in_ok-extend_from_slice.ensures.items ∙ (λ i. c.new-text.ensures.items i ++ c.method.ensures i) in
    let host : c.extend_from_slice-4.new.self.items ≡ c.extend_from_slice-3.new.self.items ++ c.args.host.now =
    c.in_ok-extend_from_slice-4.ensures.items ∙ ap (λ h. c.extend_from_slice-3.new.self.items ++ h) c.as_bytes.ensures.value in
    written c.args.host.now c.args.ask.now c.args.size c.as_bytes-2.result.now
    _ _ _ _ _ _ _ _ (c.as_bytes-2.ensures ∙ c.new-digits.ensures ∙ c.decimals_are_read_back.ensures.printed c.args.size c.ranges.size.fits) first c.in_ok-extend_from_slice-2.ensures.items c.in_ok-push_target.ensures c.in_ok-extend_from_slice-3.ensures.items host
    c.in_ok-extend_from_slice-5.ensures.items c.in_ok-extend_from_slice-6.ensures.items c.in_ok-extend_from_slice-7.ensures.items
