use Rattle.std.proofs.Common.{◌≡◌, List, map, ap, sym, ◌∙◌, subst}
use Rattle.board_core.specs.declared.entry.Entry.{Entry}
use Rattle.inv_cert.specs.Evidences.{Evidence}
use Rattle.goal_board.specs.declared.pass.Posted.{Posted}
use Rattle.goal_board.specs.declared.view.Terms.{Terms}
use Rattle.goal_board.specs.Passes.{BoardState, PassState, PassesState}
use Rattle.goal_board.specs.Ends.{entries_of}
use Rattle.goal_board.proofs.Taken.{IsWhole, numbered_posts, whole}
use Rattle.goal_board.proofs.gathering.gather.Goals as goal

pub in_order-history-requires-clause-numbers : goal.in_order-history-requires-clause-numbers
in_order-history-requires-clause-numbers c =
    let t : Terms = c.board.inside.table.shared.key in
    let passes : List PassState = c.passes.inside.passes.items in
    numbered_posts t c.passes.inside.goals passes c.hand_over-seat.result.0.me.0.known c.hand_over-seat.result.1.items c.close-marks.result.items c.hand_over-seat.ensures.posts c.close-marks.ensures

-- what is gathered is all that the passes posted
is_whole : (c : goal.After-from_vec-3) → IsWhole c.args.board.terms c.args.passes.passes c.from_vec.result c.from_vec-2.result c.from_vec-3.result
is_whole c =
    let t : Terms = c.board.inside.table.shared.key in
    let passes : List PassState = c.passes.inside.passes.items in
    let marks = c.close-marks.result.items in
    let o = c.in_order-history.ensures in
    let terms : t ≡ c.args.board.terms = ap (λ (b : BoardState). b.terms) c.board.view_is in
    let all : passes ≡ c.args.passes.passes = ap (λ (s : PassesState). s.passes) c.passes.view_is in
    let history : c.from_vec.result ≡ entries_of o.0 = c.from_vec.ensures ∙ o.2 in
    let evidence : c.from_vec-2.result ≡ map (λ (p : Posted). p.evidence) o.0 = c.from_vec-2.ensures ∙ o.3 in
    let made = whole t c.passes.inside.goals passes c.hand_over-seat.result.0.me.0.known c.hand_over-seat.result.1.items marks c.hand_over-seat.ensures.posts c.close-marks.ensures o.0 o.1 in
    let for_all : IsWhole c.args.board.terms c.args.passes.passes (entries_of o.0) (map (λ (p : Posted). p.evidence) o.0) marks
    = subst (λ (x : Terms). IsWhole x c.args.passes.passes (entries_of o.0) (map (λ (p : Posted). p.evidence) o.0) marks) terms
    (subst (λ (ps : List PassState). IsWhole t ps (entries_of o.0) (map (λ (p : Posted). p.evidence) o.0) marks) all made) in
    subst (IsWhole c.args.board.terms c.args.passes.passes c.from_vec.result c.from_vec-2.result) (sym c.from_vec-3.ensures)
    (subst (λ (h : List Entry). IsWhole c.args.board.terms c.args.passes.passes h c.from_vec-2.result marks) (sym history)
    (subst (λ (v : List Evidence). IsWhole c.args.board.terms c.args.passes.passes (entries_of o.0) v marks) (sym evidence) for_all))

pub returns-clause-history : goal.returns-clause-history
returns-clause-history c = (is_whole c).is_history

pub returns-clause-events : goal.returns-clause-events
returns-clause-events c = (is_whole c).led

pub returns-clause-posts : goal.returns-clause-posts
returns-clause-posts c = (is_whole c).at_numbers

pub returns-clause-posted : goal.returns-clause-posted
returns-clause-posted c = (is_whole c).posted

pub returns-clause-evidence : goal.returns-clause-evidence
returns-clause-evidence c = (is_whole c).evidenced

pub returns-clause-settled : goal.returns-clause-settled
returns-clause-settled c = (is_whole c).settled

pub returns-clause-marks : goal.returns-clause-marks
returns-clause-marks c = (is_whole c).marks_are
