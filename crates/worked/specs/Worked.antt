-- A receipt worked through.
use Rattle.std.specs.Prelude.{◌≡◌, ℕ, suc, true, false, cond, List, [], ◌∷◌, map, codes}
use Rattle.std.specs.Str.{bytes_eq}
use Rattle.model.specs.declared.action.Action.TheVariants.{Open, Close}
use Rattle.model.specs.declared.entry.Certainty.TheVariants.{Sure, Undecided}
use Rattle.model.specs.declared.entry.Entry.{Entry}
use Rattle.model.specs.Receipt.{Element, Receipt, Lawful}
use Rattle.model.specs.Calls.{Call, act, after_calls, rung_up}
use Rattle.model.specs.Roll.{roll_of}
use Rattle.model.specs.Plane.{post}
use Rattle.model.specs.Grammar.{PathTree, Reads, Breaks, path_meaning}
use Rattle.model.specs.Show.{entries, selected_ranks, tally_of}

-- the place of the name in a list that begins with the place l, or 0 where it is not there
abbrev pub label_from : ℕ → List (List ℕ) → List ℕ → ℕ
label_from l [] bytes = 0
label_from l (name ∷ rest) bytes = cond (bytes_eq name bytes) l (label_from (suc l) rest bytes)

-- receipt, group, line and void have the labels 1, 2, 3 and 4
abbrev pub label_of_name : List ℕ → ℕ
label_of_name = label_from 1 (codes "receipt" ∷ codes "group" ∷ codes "line" ∷ codes "void" ∷ [])

abbrev pub element : ℕ → ℕ → Element
element level label = record { label = label; level = level }

-- a receipt with a closed group of two lines and an open group of a line and a void
abbrev pub worked : Receipt
worked = record { elements = element 0 1 ∷ element 1 2 ∷ element 2 3 ∷ element 2 3 ∷ element 1 2 ∷ element 2 3 ∷ element 2 4 ∷ []; depth = 2 }

abbrev pub opening : ℕ → Call
opening label = act (Open label)

abbrev pub closing : Call
closing = act Close

-- the calls that ring it up
abbrev pub sale : List Call
sale = opening 1 ∷ opening 2 ∷ opening 3 ∷ closing ∷ opening 3 ∷ closing ∷ closing ∷ opening 2 ∷ opening 3 ∷ closing ∷ opening 4 ∷ closing ∷ []

abbrev pub sure : ℕ → Entry
sure y = record { rank = y; selected = true; certainty = Sure }

-- undecided, and selected or not selected now
abbrev pub so_far : ℕ → Entry
so_far y = record { rank = y; selected = true; certainty = Undecided }

abbrev pub not_yet : ℕ → Entry
not_yet y = record { rank = y; selected = false; certainty = Undecided }

-- The text reads as a query (a text has at most one tree) that has these entries in a show and these ranks in an audit.
pub record Answers (r : Receipt) (text : List ℕ) (shown : List Entry) (audited : List ℕ) : Type 0 where
  pub tree : PathTree
  pub reads : Reads text tree
  pub shows : entries r (path_meaning label_of_name tree) ≡ shown
  pub audits : selected_ranks r (path_meaning label_of_name tree) ≡ audited

pub record WorkedReceipt : Type 0 where
  pub lawful : Lawful worked
  pub is_rung_up : rung_up sale ≡ worked
  pub post_ranks : map (post worked) (0 ∷ 1 ∷ 2 ∷ 3 ∷ 4 ∷ 5 ∷ 6 ∷ []) ≡ 6 ∷ 2 ∷ 0 ∷ 1 ∷ 5 ∷ 3 ∷ 4 ∷ []
  pub roll : roll_of worked
      ≡ 0x01 ∷ 0x02 ∷ 0x00 ∷ 0x07 ∷ 0x00 ∷ 0x08 ∷ 0x00 ∷ 0x0F ∷ 0x00 ∷ 0x01 ∷ 0x02 ∷ 0x02 ∷ 0x01 ∷ 0x02 ∷ 0x02 ∷ 0x01 ∷ 0x02 ∷ 0x03 ∷ 0x03 ∷ 0x02 ∷ 0x03 ∷ 0x04 ∷ []
  pub lines_of_groups : Answers worked (codes "/child::group/child::line") (sure 2 ∷ sure 3 ∷ sure 5 ∷ []) (2 ∷ 3 ∷ 5 ∷ [])
  pub no_receipt_inside : Answers worked (codes "/child::receipt") [] []
  pub lines_before_no_void : Answers worked (codes "/descendant::line[not(following-sibling::void)]") (sure 2 ∷ sure 3 ∷ []) (2 ∷ 3 ∷ [])
  pub last_line : Answers worked (codes "/descendant::line[not(following::line)]") (so_far 5 ∷ []) (5 ∷ [])
  -- At a rate of 10 it has 10 points, none of them sure.
  pub last_line_tally : tally_of (so_far 5 ∷ []) 10 ≡ record { selected = 1; sure = 0; points = 10; sure_points = 0 }
  pub groups_before_groups : Answers worked (codes "/descendant::group[following::group]") (sure 1 ∷ not_yet 4 ∷ []) (1 ∷ [])
  -- After two closings nothing is open, and the last line is sure.
  pub last_line_at_the_end : Answers (after_calls (closing ∷ closing ∷ []) worked) (codes "/descendant::line[not(following::line)]") (sure 5 ∷ []) (5 ∷ [])
  pub lone_colon : Breaks (codes "/child:line") 7
  pub no_filter : Breaks (codes "/child::line[") 13
