-- The digits after the point are six,
-- and the number is what they make.
use Rattle.std.proofs.lemmas.List.{take_rest}
use Rattle.paper.specs.Name.{user_number}
use Rattle.words.proofs.Octals.{user-long, user-six-digits}
use Rattle.words.proofs.begin.user_number.Goals as goal

pub slice_bounds-number_of-count : goal.slice_bounds-number_of-count
slice_bounds-number_of-count c = user-long c.args.n.now c.requires

pub slice_bounds-number_of-start : goal.slice_bounds-number_of-start
slice_bounds-number_of-start c = user-long c.args.n.now c.requires

pub number_of-requires : goal.number_of-requires
number_of-requires c = rw take_rest (user-six-digits c.args.n.now c.requires)

pub returns : goal.returns
unfolding user_number
returns c = rw take_rest at c.number_of.ensures
