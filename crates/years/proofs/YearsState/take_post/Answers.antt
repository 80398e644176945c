-- `years::YearsState::take_post` meets its contract: the years stay within bounds with a post that is not refused.
use Rattle.years.proofs.Years.{post_within, post_handed}
use Rattle.years.proofs.YearsState.take_post.Goals as goal

pub invariant_of-self : goal.invariant_of-self
invariant_of-self c = post_within _ c.args.x _ c.self.invariant c.add.ensures.year

pub returns-clause-years : goal.returns-clause-years
returns-clause-years c = rw (c.add.ensures.year, ← c.self.view_is) (post_handed _ c.args.x).0
