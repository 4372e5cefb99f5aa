use Rattle.std.proofs.Common.{◌+◌, IsSome, List, [], ◌∷◌, ◌++◌, take, sym, ap, ◌∙◌, subst, BuildHasherDefault, FoldHasher}
use Rattle.std.proofs.lemmas.List.{take_more, take_all}
use Rattle.aig_model.specs.declared.parts.Named.{Named}
use Rattle.signal_list.specs.Names.{Table, told, TellsOwners}
use Rattle.signal_list.proofs.Asked.{Puts, put-keeps, put-rewritten, symbol-skipped, symbol-put}
use Rattle.signal_list.proofs.names.find_owners.Goals as goal
use Rattle.signal_list.proofs.names.find_owners.Goals.{in-Some+in_ok-insert, in_default}

abbrev Owners : Type 0
Owners = Table (BuildHasherDefault FoldHasher)

pub loop-symbol-preserved : goal.loop-symbol-preserved
loop-symbol-preserved c =
    let i = c.loop-symbol.symbol-index in
    let symbols = c.args.symbols.now in
    let symbol = c.symbol-item.result in
    let old = c.loop-symbol.owners in
    let key = c.as_slice-name.result in
    let before = take i symbols in
    let more = take_more symbols i symbol c.loop-symbol-test.true ∙ ap (λ n. before ++ n ∷ []) (sym c.symbol-item.is) in
    elim c.match-get.branch [
      | in-Some+in_ok-insert w ↦
          let new = w.insert.new.self in
          let put : Puts old new key _ = put-rewritten old new key _ _ w.in_ok-insert.ensures.updates.0 w.with_one_more-owner.ensures in
          record {
            keeps = λ bytes had. subst (λ (t : Owners). IsSome (told t bytes)) (sym w.owners-is) (put-keeps old new key _ put bytes (c.loop-symbol.invariant.keeps bytes had));
            tells = subst (λ (t : Owners). TellsOwners (take (i + 1) symbols) t) (sym w.owners-is)
                (subst (λ (ns : List Named). TellsOwners ns new) (sym more)
                (symbol-put before symbol old new key w.in-Some.owner.now c.loop-symbol.invariant.tells c.as_slice-name.ensures w.in-Some.ensures.value put));
          }
      | in_default w ↦ record {
        keeps = λ bytes had. subst (λ (t : Owners). IsSome (told t bytes)) (sym w.owners-is) (c.loop-symbol.invariant.keeps bytes had);
        tells = subst (λ (t : Owners). TellsOwners (take (i + 1) symbols) t) (sym w.owners-is)
            (subst (λ (ns : List Named). TellsOwners ns old) (sym more)
            (symbol-skipped before symbol old key c.loop-symbol.invariant.tells c.as_slice-name.ensures w.in_default.ensures.value));
      }
    ]

pub returns-clause-owners : goal.returns-clause-owners
returns-clause-owners c =
    subst (λ (ns : List Named). TellsOwners ns c.loop-symbol.owners) (take_all c.loop-symbol.symbol-index c.args.symbols.now c.loop-symbol-test.false) c.loop-symbol.invariant.tells
