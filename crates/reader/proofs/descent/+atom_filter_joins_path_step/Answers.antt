use Rattle.std.proofs.Common.{ℕ, ◌++◌, length, ap, ◌∙◌, rules}
use Rattle.grammar.specs.Joins.{word}
use Rattle.reader.specs.declared.descent.Word.{Word}
use Rattle.table.specs.declared.part.Tag.TheVariants.{Filtered, Then, And, Not}
use Rattle.reader.specs.Drafts.{entered, root, joined_to, reached}
use Rattle.reader.specs.Parsed.{AtomRead, JoinsRead, PathRead, StepRead, join_of}
use Rattle.reader.proofs.Moves.{at_stop, front}
use Rattle.reader.proofs.Compose.{from_draft, step_bare, step_stops_inside, step_stops_open, step_held, path_one, path_stops, path_slash, atom_along, parens_stop, parens_read, not_stops, not_stops_open, not_read, not_word_stops, filter_read, joins_end, joins_word_stops, joins_atom_stops, joins_and, joins_or}
use Rattle.reader.proofs.descent.+atom_filter_joins_path_step.Goals as goal

pub atom-returns-in_err-rest-in-40 : goal.atom-returns-in_err-rest-in-40
atom-returns-in_err-rest-in-40 g t c =
    at_stop (AtomRead _ _ _ _) c.from_residual.ensures.1 (parens_stop _ _ _ (search (rules, front)) c.in_err-rest-in-40.ensures)

pub atom-returns-in_err-inner-in-110 : goal.atom-returns-in_err-inner-in-110
atom-returns-in_err-inner-in-110 g t c =
    at_stop (AtomRead _ _ _ _) c.from_residual-in_err-inner-in-110.ensures.1 (not_word_stops _ _ _ (search (rules, front)) c.in_err-inner-in-110.ensures)

pub atom-returns-in_err-rest-in-110 : goal.atom-returns-in_err-rest-in-110
atom-returns-in_err-rest-in-110 g t c =
    at_stop (AtomRead _ _ _ _) c.from_residual-in_err-rest-in-110.ensures.1 (not_stops (search (rules, front)) c.in_ok-inner-in-110.ensures.0 c.in_ok-inner-in-110.ensures.1 _ c.in_err-rest-in-110.ensures)

pub atom-returns-in_err-end-in-110 : goal.atom-returns-in_err-end-in-110
atom-returns-in_err-end-in-110 g t c =
    at_stop (AtomRead _ _ _ _) c.from_residual-in_err-end-in-110.ensures.1 (not_stops_open (search (rules, front)) c.in_ok-inner-in-110.ensures.0 c.in_ok-inner-in-110.ensures.1 _ _ _ _ _ c.in_ok-rest-in-110.ensures c.in_err-end-in-110.ensures.0 c.in_err-end-in-110.ensures.1)

pub atom-returns-in_ok-rest-in-40 : goal.atom-returns-in_ok-rest-in-40
atom-returns-in_ok-rest-in-40 g t c =
    parens_read _ _ _ _ _ _ _ _ (search (rules, front)) (from_draft c.enter.ensures c.in_ok-rest-in-40.ensures) c.leave.ensures c.shut.ensures

pub atom-returns-in_ok-end-in-110 : goal.atom-returns-in_ok-end-in-110
atom-returns-in_ok-end-in-110 g t c =
    not_read (search (rules, front)) c.in_ok-inner-in-110.ensures.0 c.in_ok-inner-in-110.ensures.1 _ _ _ _ _ _ (from_draft (c.enter-in-110.ensures ∙ ap (entered (length c.in_ok-inner-in-110.inner.now)) c.count.ensures) c.in_ok-rest-in-110.ensures) c.in_ok-end-in-110.ensures (c.over.ensures ∙ ap (reached Not) c.leave-in-110.ensures)

pub atom-returns-in_default : goal.atom-returns-in_default
atom-returns-in_default g t c = atom_along _ _ _ _ _ (search rules) (search rules) c.path.ensures

pub filter-returns : goal.filter-returns
filter-returns g t c = filter_read _ _ _ _ _ _ _ c.in_ok-rest.ensures c.joins.ensures

pub joins-returns-in_err-word-in-32 : goal.joins-returns-in_err-word-in-32
joins-returns-in_err-word-in-32 g t c =
    at_stop (JoinsRead _ _ _ _ _) c.from_residual.ensures.1 (joins_word_stops _ _ _ (search (rules, front)) c.in_err-word-in-32.ensures)

pub joins-returns-in_err-rest-in-And : goal.joins-returns-in_err-rest-in-And
joins-returns-in_err-rest-in-And g t c =
    at_stop (JoinsRead _ _ _ _ _) c.from_residual-in_err-rest-in-And.ensures.1 (joins_atom_stops _ _ _ _ (search (rules, front)) c.in_ok-word-in-32.ensures.1 c.in_err-rest-in-And.ensures)

pub joins-returns-in_err-rest-in-Or : goal.joins-returns-in_err-rest-in-Or
joins-returns-in_err-rest-in-Or g t c =
    at_stop (JoinsRead _ _ _ _ _) c.from_residual-in_err-rest-in-Or.ensures.1 (joins_atom_stops _ _ _ _ (search (rules, front)) c.in_ok-word-in-32.ensures.1 c.in_err-rest-in-Or.ensures)

pub joins-returns-in_ok-rest-in-And : goal.joins-returns-in_ok-rest-in-And
joins-returns-in_ok-rest-in-And g t c =
    let h = c.in_ok-word-in-32.ensures in
    joins_and _ _ _ _ _ _ _ _ _ _ _ (search (rules, front))
    (h.0 ∙ ap (λ (w : Word). word (join_of w) ++ c.in_ok-word-in-32.next.now) c.in-And.is) h.1 (from_draft c.count.ensures c.in_ok-rest-in-And.ensures)
    (c.join.ensures ∙ ap (λ (l : ℕ). joined_to And l c.atom.new.draft) c.root-left.ensures) c.joins.ensures

pub joins-returns-in_ok-rest-in-Or : goal.joins-returns-in_ok-rest-in-Or
joins-returns-in_ok-rest-in-Or g t c =
    let h = c.in_ok-word-in-32.ensures in
    joins_or _ _ _ _ _ _ _ _ _ _ _ _ (search (rules, front))
    (h.0 ∙ ap (λ (w : Word). word (join_of w) ++ c.in_ok-word-in-32.next.now) c.in-Or.is) h.1 c.close.ensures c.root-left-in-Or.ensures (from_draft c.count-in-Or.ensures c.in_ok-rest-in-Or.ensures) c.joins-in-Or.ensures

pub joins-returns-in_default : goal.joins-returns-in_default
joins-returns-in_default g t c = joins_end _ _ _ _ _ (search rules) c.close-in_default.ensures

pub path-returns-in_err-end-in-47 : goal.path-returns-in_err-end-in-47
path-returns-in_err-end-in-47 g t c =
    let s = c.in_ok-axis.ensures in
    at_stop (PathRead _ _ _ _) c.from_residual-in_err-end-in-47.ensures.1 (path_stops s.0 s.1 _ _ (search (rules, front)) c.in_err-end-in-47.ensures)

pub path-returns-in_ok-end-in-47 : goal.path-returns-in_ok-end-in-47
path-returns-in_ok-end-in-47 g t c =
    let s = c.in_ok-axis.ensures in
    path_slash s.0 s.1 _ _ c.path.new.draft c.join.new.self c.over.new.self (search (rules, front)) c.in_ok-end-in-47.ensures (c.join.ensures ∙ ap (λ (l : ℕ). joined_to Then l c.path.new.draft) c.root-here.ensures) c.over.ensures

pub path-returns-in_default : goal.path-returns-in_default
path-returns-in_default g t c =
    let s = c.in_ok-axis.ensures in
    path_one s.0 s.1 _ (search rules) c.over-in_default.ensures

pub step-returns-in_err-after-in-91 : goal.step-returns-in_err-after-in-91
step-returns-in_err-after-in-91 g t c =
    at_stop (StepRead _ c.args.text.now _ _) c.from_residual-in_err-after-in-91.ensures.1 (step_stops_inside {text = c.args.text.now} {d1 = c.test.new.draft} _ _ c.args.draft.now c.in_ok-axis.ensures.0 c.in_ok-axis.ensures.1 (from_draft c.count.ensures c.in_ok-rest.ensures) _ _ (search (rules, front)) c.in_err-after-in-91.ensures)

pub step-returns-in_err-end-in-91 : goal.step-returns-in_err-end-in-91
step-returns-in_err-end-in-91 g t c =
    let n = c.in_err-end-in-91.ensures in
    at_stop (StepRead _ c.args.text.now _ _) c.from_residual-in_err-end-in-91.ensures.1 (step_stops_open {text = c.args.text.now} {d1 = c.test.new.draft} _ _ c.args.draft.now c.in_ok-axis.ensures.0 c.in_ok-axis.ensures.1 (from_draft c.count.ensures c.in_ok-rest.ensures) _ _ _ _ _ (search (rules, front)) c.in_ok-after-in-91.ensures n.0 n.1)

pub step-returns-in_ok-end-in-91 : goal.step-returns-in_ok-end-in-91
step-returns-in_ok-end-in-91 g t c =
    step_held _ _ _ c.in_ok-axis.ensures.0 c.in_ok-axis.ensures.1 (from_draft c.count.ensures c.in_ok-rest.ensures) _ _ _ _ _ (search (rules, front)) (from_draft c.enter.ensures c.in_ok-after-in-91.ensures) c.in_ok-end-in-91.ensures
    (c.join.ensures ∙ ap (λ (l : ℕ). joined_to Filtered l c.leave.new.self) c.root-here.ensures ∙ ap (joined_to Filtered (root c.test.new.draft)) c.leave.ensures)

pub step-returns-in_default : goal.step-returns-in_default
step-returns-in_default g t c =
    step_bare _ _ _ c.in_ok-axis.ensures.0 c.in_ok-axis.ensures.1 (from_draft c.count.ensures c.in_ok-rest.ensures) (search rules)
