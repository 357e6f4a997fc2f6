use Rattle.std.proofs.Common.{◌∙◌, ap}
use Rattle.std.specs.Prelude.{is_ok}
use Rattle.site_config.proofs.Categories.{is_ok-by_category}
use Rattle.site_config.proofs.details.is_category.Goals as goal

pub returns : goal.returns
returns c = c.is_ok.ensures.value ∙ ap is_ok c.new.ensures ∙ is_ok-by_category c.args.kind c.args.category
