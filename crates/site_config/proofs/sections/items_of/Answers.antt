use Rattle.std.proofs.Common.{◌≡◌, Some, rules}
use Rattle.toml.specs.Data.{as_array}
use Rattle.toml.specs.View.{view, items_view}
use Rattle.site_config.proofs.Lists.{items_in-within, items_in-outside}
use Rattle.site_config.proofs.sections.items_of.Goals as goal

pub returns-then-not-is_in_limits-clause-given : goal.returns-then-not-is_in_limits-clause-given
returns-then-not-is_in_limits-clause-given c =
    let array : as_array (view c.args.value.now) ≡ Some (items_view c.in-Some.items.now.items) = search (rules, c.as_array.ensures) in
    items_in-outside c.args.part c.args.low c.args.high _ _ array (search rules)

pub returns-clause-given : goal.returns-clause-given
returns-clause-given c =
    let array : as_array (view c.args.value.now) ≡ Some (items_view c.in-Some.items.now.items) = search (rules, c.as_array.ensures) in
    let whole : c.as_slice.result.now ≡ c.in-Some.items.now.items = search (rules, c.as_slice.ensures) in
    rw whole (items_in-within c.args.part c.args.low c.args.high _ _ array (search rules))
