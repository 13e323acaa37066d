use Rattle.std.proofs.Common.{◌≡◌, ◌<◌, ◌≤◌, ℕ, List, length, map, take, sym, ap, subst, ◌∙◌, arith}
use Rattle.std.specs.Rc.{rc_slice_items}
use Rattle.octets.specs.Sharing.{IsSharing}
use Rattle.caps.specs.Fields.{ReadValue}
use Rattle.share_codec.specs.Params.{ParamsValue}
use Rattle.share_codec.specs.GoodShare.{GoodShare}
use Rattle.file_shares.specs.Row.{ServerShare}
use Rattle.file_shares.specs.Gathered.{found_string, Found, by_number, good_below}
use Rattle.file_shares.specs.Ahead.{file_params}
use Rattle.file_shares.proofs.ByNumber.{length-rows}
use Rattle.file_shares.proofs.Verified.{goods_of, many_are_chosen, few_give_none}
use Rattle.file_shares.proofs.verify.choose.Goals as goal

-- what was chosen by the numbers as the code has them was chosen by the cap's
first_of_goods : (p : ParamsValue) (ueb : List ℕ) (f : ReadValue) (found : List Found) (n : ℕ) (rows : List (List ServerShare)) (shares : List GoodShare)
    → p ≡ file_params f → ueb ≡ f.ueb → n ≡ f.n → rows ≡ by_number n found → shares ≡ take p.k (good_below p ueb rows p.n) → shares ≡ take f.k (goods_of f found)
first_of_goods p ueb f found n rows shares numbers hash many is first =
    first ∙ (λ i. take (numbers i).k (good_below (numbers i) (hash i) ((is ∙ ap (λ m. by_number m found) many) i) (numbers i).n))

pub chosen-requires-clause-rows : goal.chosen-requires-clause-rows
chosen-requires-clause-rows c =
    let found : List Found = map (found_string rc_slice_items) c.args.found.now in
    ap length c.in_ok-rows.ensures ∙ length-rows c.fields.inside.n found ∙ ap (λ (v : ReadValue). v.n) c.fields.view_is ∙ sym (ap (λ (q : ParamsValue). q.n) c.file_params-params.ensures)

pub returns-then-len-params-clause-missing : goal.returns-then-len-params-clause-missing
returns-then-len-params-clause-missing c is =
    let f : ReadValue = c.args.fields.now in
    let shares : List GoodShare = c.in_ok-shares.shares.items in
    let k : c.params.inside.k ≡ f.k = ap (λ (q : ParamsValue). q.k) (c.params.view_is ∙ c.file_params-params.ensures) in
    let few : length shares < f.k = (let a = c.in_ok-shares.shares.ok.0 in let b = c.len.ensures in let d = c.if-len-params.true in omega arith) in
    few_give_none f (map (found_string rc_slice_items) c.args.found.now) shares
    (first_of_goods c.file_params-params.result c.fields.inside.ueb f _ c.fields.inside.n c.in_ok-rows.rows shares c.file_params-params.ensures
    (ap (λ (v : ReadValue). v.ueb) c.fields.view_is) (ap (λ (v : ReadValue). v.n) c.fields.view_is) c.in_ok-rows.ensures c.in_ok-shares.ensures) few

pub returns-clause-chosen : goal.returns-clause-chosen
returns-clause-chosen c =
    let f : ReadValue = c.args.fields.now in
    let shares : List GoodShare = c.in_ok-shares.shares.items in
    let k : c.params.inside.k ≡ f.k = ap (λ (q : ParamsValue). q.k) (c.params.view_is ∙ c.file_params-params.ensures) in
    let many : f.k ≤ length shares = (let a = c.in_ok-shares.shares.ok.0 in let b = c.len.ensures in let d = c.if-len-params.false in omega arith) in
    let sharing : IsSharing f.k f.n = subst (λ (v : ReadValue). IsSharing v.k v.n) c.fields.view_is c.fields.invariant in
    many_are_chosen f (map (found_string rc_slice_items) c.args.found.now) c.good_shares_are_read.ensures.found c.good_shares_are_read.ensures.cut sharing shares
    (first_of_goods c.file_params-params.result c.fields.inside.ueb f _ c.fields.inside.n c.in_ok-rows.rows shares c.file_params-params.ensures
    (ap (λ (v : ReadValue). v.ueb) c.fields.view_is) (ap (λ (v : ReadValue). v.n) c.fields.view_is) c.in_ok-rows.ensures c.in_ok-shares.ensures) many
