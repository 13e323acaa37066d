use Rattle.std.proofs.Common.{List, ◌++◌, Contains, subst, sym, ap, ◌∙◌}
use Rattle.std.specs.Option.{option_to_list}
use Rattle.chk_file.specs.Cached.{CacheEntry}
use Rattle.file_shares.specs.Downloads.{DownloadValue}
use Rattle.chk_file.specs.Seen.{cache_entries, gathered_entries}
use Rattle.chk_file.proofs.CacheEntries.{pinned_there}
use Rattle.chk_file.proofs.cache.Cache.pinned.Goals as goal

pub returns-clause-found : goal.returns-clause-found
returns-clause-found c =
    let kept : List CacheEntry = cache_entries c.self.inside.kept.entries in
    let rest : List CacheEntry = c.self.inside.steps ++ (option_to_list c.self.inside.looking ++ (option_to_list c.self.inside.listed ++ gathered_entries c.self.inside.gathered)) in
    let same = sym c.ne.ensures ∙ c.if-ne.false in
    let left = ap (λ (d : DownloadValue). d.left) c.in_ok-twin.ensures in
    subst (λ (entries : List CacheEntry). Contains entries (c.args.fields.now, (c.args.stamp, c.in_ok-twin.field-0.left))) c.self.view_is
    (pinned_there kept rest c.self.inside.pinned c.in-Some.pinned c.args.fields.now c.args.stamp c.in_ok-twin.field-0.left c.in-Some.is same c.if-pinned-stamp.false left)

pub returns-clause-bound : goal.returns-clause-bound
returns-clause-bound c =
    let kept : List CacheEntry = cache_entries c.self.inside.kept.entries in
    let rest : List CacheEntry = c.self.inside.steps ++ (option_to_list c.self.inside.looking ++ (option_to_list c.self.inside.listed ++ gathered_entries c.self.inside.gathered)) in
    let same = sym c.ne.ensures ∙ c.if-ne.false in
    let left = ap (λ (d : DownloadValue). d.left) c.in_ok-twin.ensures in
    c.self.invariant.0 c.args.fields.now c.args.stamp c.in_ok-twin.field-0.left
    (pinned_there kept rest c.self.inside.pinned c.in-Some.pinned c.args.fields.now c.args.stamp c.in_ok-twin.field-0.left c.in-Some.is same c.if-pinned-stamp.false left)
