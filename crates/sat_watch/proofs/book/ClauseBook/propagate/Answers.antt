use Rattle.std.proofs.Common.{◌≡◌, ℕ, ◌≤◌, ◌++◌, Option, List, length, take, drop, ap, sym, ◌∙◌, subst, arith}
use Rattle.std.proofs.lemmas.List.{with_items_is}
use Rattle.sat_trail.specs.Trail.{TrailState, lits}
use Rattle.sat_watch.specs.declared.links.Watch.{Watch}
use Rattle.sat_watch.specs.declared.mark.Mark.{Mark}
use Rattle.sat_watch.specs.Book.{BookState, marks, NoneFalseBelow, NoneUnitBelow, ScanIs}
use Rattle.sat_watch.specs.Kept.{IsStart, IsKept}
use Rattle.sat_watch.specs.Watching.{AreKnown}
use Rattle.sat_watch.proofs.SeenTrail.{known_at_start, seen_after, IsKept-after}
use Rattle.sat_watch.proofs.book.ClauseBook.propagate.Goals as goal

pub propagate_watches-scan-requires-clause-known : goal.propagate_watches-scan-requires-clause-known
propagate_watches-scan-requires-clause-known c =
    let s = c.self.inside in
    let t = c.args.trail.now in
    let b : BookState = record { vars = s.vars; clauses = s.clauses; seen = take s.count s.seen.items } in
    let A : BookState → Type 0 = λ x. take t.low (marks t.assignments) ≡ take t.low x.seen in
    let agrees = subst A (sym c.self.view_is) c.requires.agrees in
    let marks_are : c.first_marks.result.now ≡ b.seen = c.first_marks.ensures ∙ ap (take s.count) c.deref.ensures.value in
    let S : List Mark → Type 0 = λ ms. IsStart ms s.quiet c.start_of-start.result in
    let le : c.start_of-start.result ≤ t.low = omega (arith, c.start_of-start.ensures.at_most, c.low-low.ensures.value) in
    let known = known_at_start b s.heads.items s.watches.items s.seen.items s.count s.watched_count s.quiet t c.start_of-start.result c.self.invariant c.is_well_formed.ensures agrees le (subst S marks_are c.start_of-start.ensures.start) in
    let H : List (Option ℕ) → Type 0 = λ hs. AreKnown s.clauses hs c.deref_mut-2.result.now t s.watched_count c.start_of-start.result in
    let W : List Watch → Type 0 = λ ws. AreKnown s.clauses s.heads.items ws t s.watched_count c.start_of-start.result in
    subst H (sym c.deref_mut.ensures.value) (subst W (sym c.deref_mut-2.ensures.value) known)

pub propagate_watches-scan-requires-clause-none_false : goal.propagate_watches-scan-requires-clause-none_false
propagate_watches-scan-requires-clause-none_false c =
    let B : BookState → Type 0 = λ b. NoneFalseBelow b.clauses c.args.trail.now in
    subst B (sym c.self.view_is) c.requires.none_false

pub propagate_watches-scan-requires-clause-none_unit : goal.propagate_watches-scan-requires-clause-none_unit
propagate_watches-scan-requires-clause-none_unit c =
    let B : BookState → Type 0 = λ b. NoneUnitBelow b.clauses c.args.trail.now in
    subst B (sym c.self.view_is) c.requires.none_unit

seen_is : (c : goal.After-mark) → take c.len-count.result (take c.self.inside.seen.len (c.note.new.seen ++ drop (length c.note.new.seen) c.self.inside.seen.items)) ≡ marks c.propagate_watches-scan.new.trail.assignments
seen_is c =
    let s = c.self.inside in
    let len : length c.note.new.seen ≡ s.seen.len = omega (arith, c.note.auto.seen, c.deref_mut-3.ensures.len) in
    let A : BookState → Type 0 = λ b. take c.args.trail.now.low (marks c.args.trail.now.assignments) ≡ take c.args.trail.now.low b.seen in
    let agrees = subst A (sym c.self.view_is) c.requires.agrees in
    let B : ℕ → Type 0 = λ n. take n (marks c.args.trail.now.assignments) ≡ take n (take s.count s.seen.items) in
    let room : s.count ≤ length s.seen.items = omega (arith, c.self.invariant.number, c.self.invariant.seen_room) in
    let step = c.propagate_watches-scan.ensures.by_units in
    ap (take c.len-count.result) (with_items_is s.seen c.note.new.seen len)
    ∙ ap (λ n. take n c.note.new.seen) c.len-count.ensures.value
    ∙ seen_after s.seen.items c.note.new.seen c.args.trail.now.assignments step.more c.propagate_watches-scan.new.trail.assignments s.count c.low-low.result room c.low-low.ensures.at_most (subst B (sym c.low-low.ensures.value) agrees) step.assignments
    (c.note.ensures ∙ ap (λ ms. take c.low-low.result ms ++ drop c.low-low.result (marks c.propagate_watches-scan.new.trail.assignments)) c.deref_mut-3.ensures.value)

-- the book over the lists of links and watches as they were written
kept : (c : goal.After-mark) → IsKept (record { vars = c.self.inside.vars; clauses = c.self.inside.clauses; seen = marks c.propagate_watches-scan.new.trail.assignments }) c.propagate_watches-scan.new.heads c.propagate_watches-scan.new.watches c.note.new.seen (length c.propagate_watches-scan.new.trail.assignments) (length c.self.inside.clauses) c.is_quiet-self-inside.result
kept c =
    let s = c.self.inside in
    let b : BookState = record { vars = s.vars; clauses = s.clauses; seen = take s.count s.seen.items } in
    let new = c.propagate_watches-scan.new.trail in
    let V : BookState → Type 0 = λ x. c.args.trail.now.vars ≡ x.vars in
    IsKept-after b s.heads.items c.propagate_watches-scan.new.heads s.watches.items c.propagate_watches-scan.new.watches s.seen.items c.note.new.seen s.count s.watched_count s.quiet c.is_quiet-self-inside.result new c.propagate_watches-scan.result c.self.invariant
    (c.propagate_watches-scan.ensures.by_units.vars ∙ subst V (sym c.self.view_is) c.requires.vars) c.len-count.ensures.well_formed (omega (arith, c.len-count.ensures.value, c.len-count.ensures.at_most))
    (c.note.auto.seen ∙ ap length c.deref_mut-3.ensures.value) (c.propagate_watches-scan.auto.heads ∙ ap length c.deref_mut.ensures.value) (c.propagate_watches-scan.auto.watches ∙ ap length c.deref_mut-2.ensures.value)
    c.propagate_watches-scan.ensures.below c.propagate_watches-scan.ensures.watched c.is_quiet-self-inside.ensures.0

pub invariant_of-self : goal.invariant_of-self
invariant_of-self c =
    let s = c.self.inside in
    let new = c.propagate_watches-scan.new.trail in
    let quiet = c.is_quiet-self-inside.result in
    let items = take s.seen.len (c.note.new.seen ++ drop (length c.note.new.seen) s.seen.items) in
    let heads = take s.heads.len (c.propagate_watches-scan.new.heads ++ drop (length c.propagate_watches-scan.new.heads) s.heads.items) in
    let watches = take s.watches.len (c.propagate_watches-scan.new.watches ++ drop (length c.propagate_watches-scan.new.watches) s.watches.items) in
    let seen = marks new.assignments in
    let seen_same = with_items_is s.seen c.note.new.seen (omega (arith, c.note.auto.seen, c.deref_mut-3.ensures.len)) in
    let heads_same = with_items_is s.heads c.propagate_watches-scan.new.heads (omega (arith, c.propagate_watches-scan.auto.heads, c.deref_mut.ensures.len)) in
    let watches_same = with_items_is s.watches c.propagate_watches-scan.new.watches (omega (arith, c.propagate_watches-scan.auto.watches, c.deref_mut-2.ensures.len)) in
    let H : List (Option ℕ) → Type 0 = λ hs. IsKept (record { vars = s.vars; clauses = s.clauses; seen = seen }) hs c.propagate_watches-scan.new.watches c.note.new.seen (length new.assignments) (length s.clauses) quiet in
    let W : List Watch → Type 0 = λ ws. IsKept (record { vars = s.vars; clauses = s.clauses; seen = seen }) heads ws c.note.new.seen (length new.assignments) (length s.clauses) quiet in
    let I : List Mark → Type 0 = λ ms. IsKept (record { vars = s.vars; clauses = s.clauses; seen = seen }) heads watches ms (length new.assignments) (length s.clauses) quiet in
    let S : List Mark → Type 0 = λ ms. IsKept (record { vars = s.vars; clauses = s.clauses; seen = ms }) heads watches items (length new.assignments) (length s.clauses) quiet in
    let N : ℕ → Type 0 = λ n. IsKept (record { vars = s.vars; clauses = s.clauses; seen = take c.len-count.result items }) heads watches items n (length s.clauses) quiet in
    let L : ℕ → Type 0 = λ n. IsKept (record { vars = s.vars; clauses = s.clauses; seen = take c.len-count.result items }) heads watches items c.len-count.result n quiet in
    subst L (sym c.len-watched_count.ensures) (subst N (sym c.len-count.ensures.value) (subst S (sym (seen_is c)) (subst I (sym seen_same) (subst W (sym watches_same) (subst H (sym heads_same) (kept c))))))

pub returns-clause-book : goal.returns-clause-book
returns-clause-book c =
    let s = c.self.inside in
    let whole : List Mark → BookState = λ ms. record { vars = s.vars; clauses = s.clauses; seen = ms } in
    let outside : BookState → BookState = λ b. record { vars = b.vars; clauses = b.clauses; seen = marks c.propagate_watches-scan.new.trail.assignments } in
    let after : TrailState → BookState = λ t. record { vars = c.args.self.now.vars; clauses = c.args.self.now.clauses; seen = marks t.assignments } in
    ap whole (seen_is c) ∙ ap outside c.self.view_is ∙ ap after (sym c.mark.ensures)

pub returns-clause-answer : goal.returns-clause-answer
returns-clause-answer c =
    let B : BookState → Type 0 = λ b. ScanIs b.clauses (lits c.propagate_watches-scan.new.trail.assignments) c.propagate_watches-scan.result in
    let T : TrailState → Type 0 = λ t. ScanIs c.args.self.now.clauses (lits t.assignments) c.propagate_watches-scan.result in
    subst T (sym c.mark.ensures) (subst B c.self.view_is c.propagate_watches-scan.ensures.answer)
