use Rattle.std.proofs.Common.{true, length, sym, ap, ◌∙◌, arith}
use Rattle.std.proofs.Math.ListN.{length-set}
use Rattle.aig_ascii.specs.Symbols.{is_named}
use Rattle.aig_ascii.proofs.Slots.{taken-more}
use Rattle.aig_ascii.proofs.symbols.SymbolTable.add.Goals as goal

pub invariant_of-self-2 : goal.invariant_of-self-2
invariant_of-self-2 g c =
    let t = c.self.inside in
    let within = c.slot-slot.ensures.within in (
      c.self.invariant.0,
      ap length c.set.ensures ∙ length-set t.taken c.slot-slot.result true ∙ c.self.invariant.1,
      λ p there. taken-more t.sizes t.taken c.set.new.self t.names (record { place = c.in-Some.place; name = c.from_vec-name.result }) c.slot-slot.result c.self.invariant.2 c.in-Some.ensures.1 c.slot-slot.ensures.value
          (omega (arith, c.self.invariant.1, within)) c.set.ensures p there ∙ ap (λ ns. is_named ns p) (sym c.in_ok-push.ensures.ok),
    )
