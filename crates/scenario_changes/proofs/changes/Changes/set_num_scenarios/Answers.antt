use Rattle.std.proofs.Common.{rules, arith, ◌≡◌, ◌-◌, ◌≤◌, length}
use Rattle.scenario_changes.specs.Changes.{resized, no_change}
use Rattle.scenario_changes.proofs.ChangeLemmas.{resized-made, resized-kept}
use Rattle.scenario_changes.proofs.changes.Changes.set_num_scenarios.Goals as goal

made : (c : goal.After-drop-added-2) → c.truncate.new.self.items ≡ resized c.self.inside.scenarios.items c.args.n (no_change c.self.inside.columns (length c.self.inside.rows.items))
made c =
    let more : c.saturating_sub-more.result ≡ c.args.n - length c.self.inside.scenarios.items = search rules in
    let count : c.len-2.result ≡ length c.self.inside.rows.items = search rules in
    resized-made c.self.inside.scenarios.items c.in_ok-added.added.items c.append.new.self.items _ c.self.inside.columns (length c.self.inside.rows.items) c.args.n c.saturating_sub-more.result c.len-2.result more count c.in_ok-added.ensures c.in_ok-append.ensures.items c.truncate.ensures.items

pub invariant_of-self-2 : goal.invariant_of-self-2
invariant_of-self-2 c =
    let few : c.args.n ≤ 64 = omega arith in
    resized-kept _ c.args.n _ c.self.invariant few (made c)
