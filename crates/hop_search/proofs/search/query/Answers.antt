use Rattle.std.proofs.Common.{subst}
use Rattle.aig_model.specs.SignalList.{IsSignals}
use Rattle.aig_model.specs.declared.parts.Parts.{Parts}
use Rattle.hop_search.proofs.NewGoals.{queries_of}
use Rattle.hop_search.proofs.search.query.Goals as goal

pub returns : goal.returns
returns c =
    let sig = c.args.signals.now.lits in
    let are = subst (λ (p : Parts). IsSignals p sig) c.requires.signals c.is_well_formed-2.ensures in
    queries_of c.args.circuit.now sig c.args.settled.now c.args.framed.now c.put_search.new.self c.is_well_formed.ensures are c.is_well_formed-3.ensures
    c.requires.settled c.requires.framing c.requires.circuit c.in_ok-put_search.ensures
