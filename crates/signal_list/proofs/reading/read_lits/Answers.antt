use Rattle.std.proofs.Common.{◌≡◌, List, ℕ, length, false, true, sym, ap, ◌∙◌, subst, arith}
use Rattle.signal_list.specs.SignalText.{trimmed, is_signal, IsFault}
use Rattle.signal_list.specs.Names.{IsAsked}
use Rattle.signal_list.specs.Reading.{JoinsOf, IsFaultAfter}
use Rattle.signal_list.proofs.Progress.{IsReadUpTo, passes, adds, is-asked, fails, ends-empty}
use Rattle.signal_list.proofs.reading.read_lits.Goals as goal

pub loop-line-preserved-then-not-is_signal : goal.loop-line-preserved-then-not-is_signal
loop-line-preserved-then-not-is_signal c =
    let steps = c.in-Some.ensures.steps in
    let line = c.in-Some.line.now in
    let rest = c.next.new.self in
    let loop = c.loop-line in
    let other : is_signal (trimmed line) ≡ false = ap is_signal (sym c.trim_spaces-line.ensures) ∙ sym c.is_signal.ensures ∙ c.if-not-is_signal.true in
    record {
      can = tt;
      finite = tt;
      count = omega (arith, ap length steps, loop.invariant.count);
      read = passes c.args.circuit.now c.args.bytes.now loop.number line rest loop.lits
          (subst (λ (ls : List (List ℕ)). IsReadUpTo c.args.circuit.now c.args.bytes.now loop.number ls loop.lits) steps loop.invariant.read) other;
    }

pub loop-line-preserved : goal.loop-line-preserved
loop-line-preserved c =
    let steps = c.in-Some.ensures.steps in
    let line = c.in-Some.line.now in
    let rest = c.next.new.self in
    let loop = c.loop-line in
    let signal : is_signal (trimmed line) ≡ true = ap is_signal (sym c.trim_spaces-line.ensures) ∙ sym c.is_signal.ensures ∙ c.if-not-is_signal.false in
    record {
      can = tt;
      finite = tt;
      count = omega (arith, ap length steps, loop.invariant.count);
      read = adds c.args.circuit.now c.args.bytes.now loop.number line rest loop.lits c.add_signal.new.lits
          (subst (λ (ls : List (List ℕ)). IsReadUpTo c.args.circuit.now c.args.bytes.now loop.number ls loop.lits) steps loop.invariant.read) signal
          (subst (λ (l : List ℕ). JoinsOf c.args.circuit.now l loop.lits c.add_signal.new.lits) c.trim_spaces-line.ensures c.in_default.ensures.ok);
    }

pub returns-in-Err-clause-fault : goal.returns-in-Err-clause-fault
returns-in-Err-clause-fault c =
    let line = c.in-Some.line.now in
    let loop = c.loop-line in
    let signal : is_signal (trimmed line) ≡ true = ap is_signal (sym c.trim_spaces-line.ensures) ∙ sym c.is_signal.ensures ∙ c.if-not-is_signal.false in
    subst (IsFault c.args.circuit.now c.args.bytes.now) (sym c.on_line.ensures)
    (fails c.args.circuit.now c.args.bytes.now loop.number line c.next.new.self loop.lits c.in-Err.fault
    (subst (λ (ls : List (List ℕ)). IsReadUpTo c.args.circuit.now c.args.bytes.now loop.number ls loop.lits) c.in-Some.ensures.steps loop.invariant.read) signal
    (subst (λ (l : List ℕ). IsFaultAfter c.args.circuit.now loop.lits l c.in-Err.fault) c.trim_spaces-line.ensures c.in-Err.ensures.err))

pub returns-then-is_empty-clause-fault : goal.returns-then-is_empty-clause-fault
returns-then-is_empty-clause-fault c =
    let loop = c.loop-line in
    ends-empty c.args.circuit.now c.args.bytes.now loop.number loop.lits
    (subst (λ (ls : List (List ℕ)). IsReadUpTo c.args.circuit.now c.args.bytes.now loop.number ls loop.lits) c.in-None.ensures.steps.0 loop.invariant.read) (c.is_empty.ensures.0 c.if-is_empty.true)

pub add_signal-requires-clause-asked : goal.add_signal-requires-clause-asked
add_signal-requires-clause-asked c =
    let line = c.in-Some.line.now in
    let loop = c.loop-line in
    subst (λ (l : List ℕ). IsAsked l c.in_ok-owners.owners) (sym c.trim_spaces-line.ensures)
    (is-asked c.args.circuit.now c.args.bytes.now loop.number line c.next.new.self loop.lits c.in_ok-owners.owners
    (subst (λ (ls : List (List ℕ)). IsReadUpTo c.args.circuit.now c.args.bytes.now loop.number ls loop.lits) c.in-Some.ensures.steps loop.invariant.read) c.in_ok-owners.ensures.asked)
