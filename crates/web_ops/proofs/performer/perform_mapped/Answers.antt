use Rattle.std.proofs.Common.{subst, sym}
use Rattle.std.specs.Prelude.{⊤}
use Rattle.chk_file.specs.Cached.{IsCacheCurrent}
use Rattle.chk_file.proofs.Freshness.{fresh_stays}
use Rattle.web_request.specs.declared.request.Request.TheVariants.{Put, Mkdir, Get}
use Rattle.web_ops.specs.Encoding.{encoding_of, mapping}
use Rattle.caps.specs.Kinds.{is_verify_cap}
use Rattle.web_ops.specs.Answers.{get_reply}
use Rattle.web_ops.specs.Replied.{IsAnsweredFrom, IsNode}
use Rattle.web_ops.specs.Calls.{IsFound, IsPerformed}
use Rattle.web_ops.proofs.CarriedOut.{same_request, nothing_stored}
use Rattle.web_ops.proofs.performer.perform_mapped.Goals as goal

pub returns-in-Put-clause-world : goal.returns-in-Put-clause-world
returns-in-Put-clause-world g c =
    (same_request ⊤ (mapping c.args.mapped (encoding_of c.args.k c.args.n c.args.secret.now)) (Put c.in-Put.bytes) c.args.request c.put.result c.args.grid.now c.put.new.grid c.in-Put.is c.put.ensures.done).world

pub returns-in-Mkdir-clause-world : goal.returns-in-Mkdir-clause-world
returns-in-Mkdir-clause-world g c =
    (same_request ⊤ (mapping c.args.mapped (encoding_of c.args.k c.args.n c.args.secret.now)) (Mkdir c.in-Mkdir.json) c.args.request c.make_directory.result c.args.grid.now c.make_directory.new.grid c.in-Mkdir.is
    (subst (λ json. IsPerformed (mapping c.args.mapped (encoding_of c.args.k c.args.n c.args.secret.now)) (Mkdir json) c.make_directory.result c.args.grid.now c.make_directory.new.grid) c.as_slice.ensures c.make_directory.ensures.done)).world

pub returns-in-Get-clause-written : goal.returns-in-Get-clause-written
returns-in-Get-clause-written g c =
    (same_request (IsCacheCurrent c.args.cache.now c.args.grid.now) (mapping c.args.mapped (encoding_of c.args.k c.args.n c.args.secret.now)) (Get c.in-Get.cap c.in-Get.names c.in-Get.json c.in-Get.head_only c.in-Get.range) c.args.request c.get.result c.args.grid.now c.get.new.grid c.in-Get.is
    (nothing_stored _ _ _ c.get.result c.args.grid.now c.get.new.grid
    (subst (λ range. IsFound (IsCacheCurrent c.args.cache.now c.args.grid.now) (IsAnsweredFrom (is_verify_cap c.in-Get.cap) (IsNode c.in-Get.json range) c.in-Get.cap c.in-Get.names) (λ look. get_reply look.gives c.in-Get.cap c.in-Get.names c.in-Get.json range) c.get.result c.args.grid.now c.get.new.grid)
    c.range_to_apply-range_to_apply.ensures c.get.ensures.found))).written

pub returns-in-Put-clause-fresh : goal.returns-in-Put-clause-fresh
returns-in-Put-clause-fresh g c fresh =
    subst (λ cache. IsCacheCurrent cache c.put.new.grid) (sym c.put.ensures.cached)
    (fresh_stays c.args.cache.now c.args.grid.now c.put.new.grid c.put.ensures.done.leaves c.put.ensures.stamped fresh)

pub returns-in-Mkdir-clause-fresh : goal.returns-in-Mkdir-clause-fresh
returns-in-Mkdir-clause-fresh g c fresh =
    subst (λ cache. IsCacheCurrent cache c.make_directory.new.grid) (sym c.make_directory.ensures.cached)
    (fresh_stays c.args.cache.now c.args.grid.now c.make_directory.new.grid c.make_directory.ensures.done.leaves c.make_directory.ensures.stamped fresh)
