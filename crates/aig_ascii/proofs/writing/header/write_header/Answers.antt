use Rattle.std.proofs.Common.{◌≡◌, ◌++◌, ◌∷◌, [], List, ℕ, length, append_assoc, sym, ap, ◌∙◌}
use Rattle.std.proofs.lemmas.List.Concat.{flat_map-append}
use Rattle.std.specs.Fmt.{decimal}
use Rattle.aig_model.specs.declared.parts.Parts.{Parts}
use Rattle.aig_ascii.specs.CircuitText.{spaced, line_text, last_sizes, header_numbers}
use Rattle.aig_ascii.proofs.writing.header.write_header.Goals as goal

header_joined : (old magic sizes last : List ℕ) → (((old ++ magic) ++ spaced sizes) ++ spaced last) ++ 10 ∷ [] ≡ old ++ line_text magic (sizes ++ last)
header_joined old magic sizes last =
    let both : spaced (sizes ++ last) ≡ spaced sizes ++ spaced last = flat_map-append (λ n. 32 ∷ decimal n) sizes last in
    sym (ap (λ xs. old ++ (magic ++ (xs ++ 10 ∷ []))) both ∙ simp append_assoc)

-- the sizes as they were read
record AreSizes (c : Parts) (top inputs latches outputs gates bads constraints : ℕ) : Type 0 where
  is_top : top ≡ c.top
  are_inputs : inputs ≡ length c.inputs
  are_latches : latches ≡ length c.latches
  are_outputs : outputs ≡ length c.outputs
  are_gates : gates ≡ length c.gates
  are_bads : bads ≡ length c.bads
  are_constraints : constraints ≡ length c.constraints

header_written : (c : Parts) (old magic worded sized full ended : List ℕ) (top inputs latches outputs gates bads constraints : ℕ)
    → AreSizes c top inputs latches outputs gates bads constraints → worded ≡ old ++ magic → sized ≡ worded ++ spaced (top ∷ inputs ∷ latches ∷ outputs ∷ gates ∷ [])
    → full ≡ sized ++ spaced (last_sizes bads constraints) → ended ≡ full ++ 10 ∷ [] → ended ≡ old ++ line_text magic (header_numbers c)
header_written c old magic worded sized full ended top inputs latches outputs gates bads constraints are first second third fourth =
    let sizes : List ℕ = top ∷ inputs ∷ latches ∷ outputs ∷ gates ∷ [] in
    let numbers : sizes ++ last_sizes bads constraints ≡ header_numbers c =
    ap (λ n. n ∷ inputs ∷ latches ∷ outputs ∷ gates ∷ last_sizes bads constraints) are.is_top
    ∙ ap (λ n. c.top ∷ n ∷ latches ∷ outputs ∷ gates ∷ last_sizes bads constraints) are.are_inputs
    ∙ ap (λ n. c.top ∷ length c.inputs ∷ n ∷ outputs ∷ gates ∷ last_sizes bads constraints) are.are_latches
    ∙ ap (λ n. c.top ∷ length c.inputs ∷ length c.latches ∷ n ∷ gates ∷ last_sizes bads constraints) are.are_outputs
    ∙ ap (λ n. c.top ∷ length c.inputs ∷ length c.latches ∷ length c.outputs ∷ n ∷ last_sizes bads constraints) are.are_gates
    ∙ ap (λ n. c.top ∷ length c.inputs ∷ length c.latches ∷ length c.outputs ∷ length c.gates ∷ last_sizes n constraints) are.are_bads
    ∙ ap (λ n. c.top ∷ length c.inputs ∷ length c.latches ∷ length c.outputs ∷ length c.gates ∷ last_sizes (length c.bads) n) are.are_constraints
    in
    fourth
    ∙ (ap (λ xs. xs ++ 10 ∷ []) (third ∙ ap (λ xs. xs ++ spaced (last_sizes bads constraints)) (second ∙ ap (λ xs. xs ++ spaced sizes) first))
    ∙ (header_joined old magic sizes (last_sizes bads constraints) ∙ ap (λ ns. old ++ line_text magic ns) numbers))

pub returns-clause-text : goal.returns-clause-text
returns-clause-text c =
    header_written c.args.circuit.now c.args.text.now.items c.args.magic.now _ _ _ _ c.from.result c.len.result c.len-2.result c.len-3.result c.len-4.result c.len-5.result c.len-6.result
    (record {
      is_top = c.from.ensures ∙ c.top.ensures.value;
      are_inputs = c.len.ensures ∙ ap length c.inputs.ensures;
      are_latches = c.len-2.ensures ∙ ap length c.latches.ensures;
      are_outputs = c.len-3.ensures ∙ ap length c.outputs.ensures;
      are_gates = c.len-4.ensures ∙ ap length c.gates.ensures;
      are_bads = c.len-5.ensures ∙ ap length c.bads.ensures;
      are_constraints = c.len-6.ensures ∙ ap length c.constraints.ensures;
    })
    c.in_ok-extend_from_slice.ensures.items c.in_ok-push_sizes.ensures c.in_ok-push_last_sizes.ensures c.in_ok-push.ensures.items
