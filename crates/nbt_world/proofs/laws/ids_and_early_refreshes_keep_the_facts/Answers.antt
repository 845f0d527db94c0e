use Rattle.nbt_world.proofs.Unspoken.{renumbered_kept, soon_kept}
use Rattle.nbt_world.proofs.laws.ids_and_early_refreshes_keep_the_facts.Goals as goal

pub returns-clause-ids : goal.returns-clause-ids
returns-clause-ids c = renumbered_kept c.rest_outlasts_datagrams.ensures.between

pub returns-clause-refresh : goal.returns-clause-refresh
returns-clause-refresh c = soon_kept c.rest_outlasts_datagrams.ensures.between
