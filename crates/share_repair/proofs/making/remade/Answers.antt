use Rattle.std.proofs.Common.{◌≡◌, ℕ, List, Some, None, length, map, sym, ap, subst, ◌∙◌, arith, Vec, Global}
use Rattle.std.specs.Prelude.{IfSome}
use Rattle.std.specs.Option.{option_map}
use Rattle.std.specs.Rc.{rc_slice_items}
use Rattle.std.proofs.lemmas.List.{length-map}
use Rattle.std.proofs.lemmas.Result.{MatchResult-weaker}
use Rattle.erasure.specs.Given.{AreDistinct}
use Rattle.share_codec.specs.Params.{ParamsValue}
use Rattle.share_codec.specs.GoodShare.{GoodShare}
use Rattle.share_repair.specs.Files.{FileLabel, Numbered, AreGivenOf}
use Rattle.share_repair.specs.Repaired.{strings_of}
use Rattle.share_repair.proofs.Givens.{good_of, numbers_read, numbers-strings}
use Rattle.share_repair.proofs.making.remade.Goals as goal

-- as many shares as strings
as_many : (shares : List GoodShare) (given : List Numbered) → map (λ (x : GoodShare). x.number) shares ≡ map (λ (g : Numbered). g.0) given → length shares ≡ length given
as_many shares given e = sym (length-map shares (λ (x : GoodShare). x.number)) ∙ ap length e ∙ length-map given (λ (g : Numbered). g.0)

pub returns-then-shares-needed-clause-unlike : goal.returns-then-shares-needed-clause-unlike
returns-then-shares-needed-clause-unlike c other crypttext is =
    let label : FileLabel = record { params = c.args.params.now; ueb = c.args.ueb.now } in
    let given = strings_of rc_slice_items c.args.given.now in
    let good = good_of c.good_shares_are_read.ensures.found c.made_shares_are_read_back.ensures label crypttext given c.args.shares.now c.requires.read is in
    let many = good.many in
    let v = ap (λ (p : ParamsValue). p.k) c.params.view_is in
    let f = c.from-needed.ensures in
    c.if-shares-needed.true (omega arith)

pub returns-in-Ok-Some-clause-unlike : goal.returns-in-Ok-Some-clause-unlike
returns-in-Ok-Some-clause-unlike c =
    let label : FileLabel = record { params = c.args.params.now; ueb = c.args.ueb.now } in
    let given = strings_of rc_slice_items c.args.given.now in
    MatchResult-weaker c.coded.result c.coded.ensures.unlike (λ x h. h)
    (λ fault h other crypttext is.
    let good = good_of c.good_shares_are_read.ensures.found c.made_shares_are_read_back.ensures label crypttext given c.args.shares.now c.requires.read is in
    let e = c.in-Ok-Some.ensures.given crypttext good in
    let f : c.in-Ok-Some.field-0 ≡ Some c.in-Ok-Some.crypttext = c.in-Ok-Some.field-0-is in
    let g : Some c.in-Ok-Some.crypttext.items ≡ Some crypttext = ap (option_map (λ (v : Vec ℕ Global). v.items)) (sym f) ∙ e in
    let same : crypttext ≡ c.deref.result.now = (let d = c.deref.ensures.value in cc) in
    h other (subst (λ bytes. AreGivenOf label bytes given) same is))

pub returns-in-Ok-None-clause-unlike : goal.returns-in-Ok-None-clause-unlike
returns-in-Ok-None-clause-unlike c other crypttext is =
    let label : FileLabel = record { params = c.args.params.now; ueb = c.args.ueb.now } in
    let given = strings_of rc_slice_items c.args.given.now in
    let good = good_of c.good_shares_are_read.ensures.found c.made_shares_are_read_back.ensures label crypttext given c.args.shares.now c.requires.read is in
    let e = c.in-Ok-None.ensures.given crypttext good in
    let f : c.in-Ok-None.field-0 ≡ None = c.in-Ok-None.field-0-is in
    let g : None ≡ Some crypttext = ap (option_map (λ (v : Vec ℕ Global). v.items)) (sym f) ∙ e in
    cc

pub coded-requires-clause-many : goal.coded-requires-clause-many
coded-requires-clause-many c =
    let label : FileLabel = record { params = c.args.params.now; ueb = c.args.ueb.now } in
    let given = strings_of rc_slice_items c.args.given.now in
    let many = as_many c.args.shares.now given (numbers_read c.good_shares_are_read.ensures.found label given c.args.shares.now c.requires.read) in
    let long : length given ≡ length c.args.given.now = length-map c.args.given.now _ in
    let v = ap (λ (p : ParamsValue). p.k) c.params.view_is in
    let f = c.from-needed.ensures in
    let t = c.if-shares-needed.false in
    omega arith

pub coded-requires-clause-apart : goal.coded-requires-clause-apart
coded-requires-clause-apart c =
    let label : FileLabel = record { params = c.args.params.now; ueb = c.args.ueb.now } in
    let given = c.args.given.now in
    let numbers = numbers_read c.good_shares_are_read.ensures.found label (strings_of rc_slice_items given) c.args.shares.now c.requires.read in
    let f : c.in-Ok-Some.field-0 ≡ Some c.in-Ok-Some.crypttext = c.in-Ok-Some.field-0-is in
    let apart = subst (λ o. IfSome o (λ bytes. AreDistinct (map (λ (x : GoodShare). x.number) c.args.shares.now))) f c.in-Ok-Some.ensures.apart in
    subst AreDistinct (numbers ∙ numbers-strings rc_slice_items given) apart
