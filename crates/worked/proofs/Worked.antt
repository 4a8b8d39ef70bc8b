-- The worked receipt, by computing it.
use Rattle.std.proofs.Common.{codes, refl}
use Rattle.model.specs.declared.axis.Axis.TheVariants.{Child, Descendant, FollowingSibling, Following}
use Rattle.model.specs.Receipt.{empty, nearest}
use Rattle.model.specs.Calls.{actions_of}
use Rattle.model.specs.Plane.{is_among, how_many, size, post, is_open}
use Rattle.model.specs.Axes.{leads, grows}
use Rattle.model.specs.Roll.{roll_of}
use Rattle.model.specs.Selection.{some_below, selects}
use Rattle.model.specs.Verdict.{or_over, verdict}
use Rattle.model.specs.Show.{listed}
use Rattle.model.specs.Grammar.{TestTree, name, PathTree, one, slash, bare, held, OrChain, ands, atom, Atom, along, negate}
use Rattle.model.proofs.Lawfully.{empty_lawful}
use Rattle.plane.proofs.Onward.{continues_run}
use Rattle.grammar.proofs.Places.{breaks}
use Rattle.worked.specs.Worked.{sale, WorkedReceipt}

abbrev group : TestTree
group = name (codes "group") refl

abbrev line : TestTree
line = name (codes "line") refl

abbrev void : TestTree
void = name (codes "void") refl

-- a filter of one part
abbrev only : Atom → OrChain
only a = ands (atom a)

abbrev lines_of_groups : PathTree
lines_of_groups = slash (bare Child group) (one (bare Child line))

abbrev receipts_inside : PathTree
receipts_inside = one (bare Child (name (codes "receipt") refl))

abbrev lines_before_no_void : PathTree
lines_before_no_void = one (held Descendant line (only (negate (only (along (one (bare FollowingSibling void)))))))

abbrev last_line : PathTree
last_line = one (held Descendant line (only (negate (only (along (one (bare Following line)))))))

abbrev groups_before_groups : PathTree
groups_before_groups = one (held Descendant group (only (along (one (bare Following group)))))

pub worked_receipt : WorkedReceipt
unfolding nearest is_among how_many size post is_open leads grows roll_of some_below selects or_over verdict listed
worked_receipt = record {
  lawful = (continues_run (actions_of sale) empty empty_lawful).lawful;
  is_rung_up = refl;
  post_ranks = refl;
  roll = refl;
  lines_of_groups = record { tree = lines_of_groups; reads = refl; shows = refl; audits = refl };
  no_receipt_inside = record { tree = receipts_inside; reads = refl; shows = refl; audits = refl };
  lines_before_no_void = record { tree = lines_before_no_void; reads = refl; shows = refl; audits = refl };
  last_line = record { tree = last_line; reads = refl; shows = refl; audits = refl };
  last_line_tally = refl;
  groups_before_groups = record { tree = groups_before_groups; reads = refl; shows = refl; audits = refl };
  last_line_at_the_end = record { tree = last_line; reads = refl; shows = refl; audits = refl };
  lone_colon = breaks (codes "/child:line") 4 refl;
  no_filter = breaks (codes "/child::line[") 0 refl;
}
