-- How many replies there were, by status.
use Rattle.std.specs.Prelude.{◌≡◌, ℕ, ◌+◌, ◌-◌, ◌^◌, min, true, List, [], ◌∷◌, ◌++◌, refl}
use Rattle.std.specs.Coded.{Coded, code_by, coded×, coded_ℕ}
use Rattle.http_edge.specs.declared.item.Item.{Item}
use Rattle.http_edge.specs.declared.item.Item.TheVariants.{Request as RequestItem, Continue, Fault}
use Rattle.http_edge.specs.declared.reply.Status.{Status}
use Rattle.http_edge.specs.declared.reply.Status.TheVariants as statuses
use Rattle.http_edge.specs.declared.reply.Reply.{Reply}
use Rattle.http_edge.specs.Judge.{is_head_request}
use Rattle.http_edge.specs.Reply.{rendered, continue_text}
use Rattle.gate_base.specs.declared.tally.Tally.{Tally}
use Rattle.gate_base.specs.Wire.{framing_reply}

abbrev pub nothing_counted : Tally
nothing_counted = record {
  ok = 0;
  partial_content = 0;
  not_modified = 0;
  bad_request = 0;
  not_found = 0;
  method_not_allowed = 0;
  gone = 0;
  content_too_large = 0;
  range_not_satisfiable = 0;
  not_implemented = 0;
  service_unavailable = 0;
}

-- one more, as far as 64 bits count
abbrev pub tally_more : ℕ → ℕ
tally_more n = min (n + 1) (2 ^ 64 - 1)

abbrev pub tally_after : Status → Tally → Tally
tally_after statuses.Ok t = record t { ok = tally_more t.ok }
tally_after statuses.PartialContent t = record t { partial_content = tally_more t.partial_content }
tally_after statuses.NotModified t = record t { not_modified = tally_more t.not_modified }
tally_after statuses.BadRequest t = record t { bad_request = tally_more t.bad_request }
tally_after statuses.NotFound t = record t { not_found = tally_more t.not_found }
tally_after statuses.MethodNotAllowed t = record t { method_not_allowed = tally_more t.method_not_allowed }
tally_after statuses.Gone t = record t { gone = tally_more t.gone }
tally_after statuses.ContentTooLarge t = record t { content_too_large = tally_more t.content_too_large }
tally_after statuses.RangeNotSatisfiable t = record t { range_not_satisfiable = tally_more t.range_not_satisfiable }
tally_after statuses.NotImplemented t = record t { not_implemented = tally_more t.not_implemented }
tally_after statuses.ServiceUnavailable t = record t { service_unavailable = tally_more t.service_unavailable }

-- ---- the tally of what was answered

-- The text is a reply to an item, as it is sent, and its status was counted, once. The interim answer is no reply: it
-- counts nothing.
abbrev pub IsTallied : Item → List ℕ → Tally → Tally → Type 0
IsTallied (RequestItem head body close) text old new =
    (reply : Reply) × ((text ≡ rendered reply (is_head_request head) close) × (new ≡ tally_after reply.status old))
IsTallied Continue text old new = (text ≡ continue_text) × (new ≡ old)
IsTallied (Fault fault head_only) text old new = (text ≡ rendered (framing_reply fault) head_only true) × (new ≡ tally_after (framing_reply fault).status old)

-- the output is one answer to each of the items, in their order, and nothing else, and each reply among them was counted
abbrev pub AreTallied : List Item → List ℕ → Tally → Tally → Type 0
AreTallied [] output old new = (output ≡ []) × (new ≡ old)
AreTallied (item ∷ items) output old new =
    (text : List ℕ) × (more : List ℕ) × (middle : Tally) × (output ≡ text ++ more) × IsTallied item text old middle × AreTallied items more middle new

-- items were answered after what waited, and each reply was counted
pub record AreTalliedAfter (items : List Item) (before after : List ℕ) (old new : Tally) : Type 0 where
  pub output : List ℕ
  pub waits : after ≡ before ++ output
  pub tallied : AreTallied items output old new

-- ---- how it is stored

-- a tally is stored as the tuple of its numbers
abbrev pub tally_code : Coded Tally
tally_code =
    code_by (ℕ × (ℕ × (ℕ × (ℕ × (ℕ × (ℕ × (ℕ × (ℕ × (ℕ × (ℕ × ℕ)))))))))) (coded× coded_ℕ (coded× coded_ℕ (coded× coded_ℕ (coded× coded_ℕ (coded× coded_ℕ (coded× coded_ℕ (coded× coded_ℕ (coded× coded_ℕ (coded× coded_ℕ (coded× coded_ℕ coded_ℕ))))))))))
    (λ t. (t.ok, (t.partial_content, (t.not_modified, (t.bad_request, (t.not_found, (t.method_not_allowed, (t.gone, (t.content_too_large, (t.range_not_satisfiable, (t.not_implemented, t.service_unavailable)))))))))))
    (λ p. record { ok = p.0; partial_content = p.1.0; not_modified = p.1.1.0; bad_request = p.1.1.1.0; not_found = p.1.1.1.1.0; method_not_allowed = p.1.1.1.1.1.0; gone = p.1.1.1.1.1.1.0; content_too_large = p.1.1.1.1.1.1.1.0; range_not_satisfiable = p.1.1.1.1.1.1.1.1.0; not_implemented = p.1.1.1.1.1.1.1.1.1.0; service_unavailable = p.1.1.1.1.1.1.1.1.1.1 })
    (λ _. refl)
