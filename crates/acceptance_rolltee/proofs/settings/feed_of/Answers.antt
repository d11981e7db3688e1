use Rattle.std.proofs.Common.{[]}
use Rattle.acceptance_rolltee.proofs.settings.feed_of.Goals as goal

pub new-feed-requires-clause-asked : goal.new-feed-requires-clause-asked
new-feed-requires-clause-asked g c = (c.args.rotation, [], [], tt)
