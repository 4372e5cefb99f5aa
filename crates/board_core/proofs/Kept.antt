-- Every event keeps a core good.
use Rattle.std.proofs.Common.{ℕ, List, [], ◌∷◌, sym, subst, All, Contains}
use Rattle.std.proofs.lemmas.Option.{slice_get_within, get_or_from_slice_get}
use Rattle.std.proofs.lemmas.List.Elements.{All-push, All-nil}
use Rattle.board_core.specs.declared.entry.Entry.{Entry}
use Rattle.board_core.specs.declared.event.Event.{Event}
use Rattle.board_core.specs.declared.event.Event.TheVariants as events
use Rattle.board_core.specs.Core.{Core, Needs, After, next_entry}
use Rattle.board_core.specs.Good.{IsEntry, IsSound, Fact, fact_of, Good, IsFact, InitialIsGood, StaysGood, StaysGoodAlong, KindsAgree}
use Rattle.board_core.proofs.KeptNumber.{number-sound}
use Rattle.board_core.proofs.KeptMark.{mark-sound}
use Rattle.board_core.proofs.KeptLook.{look-sound}
use Rattle.board_core.proofs.KeptSplit.{split-sound, initial-sound}
use Rattle.board_core.proofs.KeptJoin.{join-sound}

pub stays_sound : (c d : Core) (event : Event) → (can : Needs c event) → After c event can d → IsSound c → IsSound d
stays_sound c d (events.Number k g kind source) can is s = subst IsSound (sym is) (number-sound c k g kind source can s)
stays_sound c d (events.Mark k) can is s = subst IsSound (sym is) (mark-sound c k can s)
stays_sound c d (events.Look k g) can is s = subst IsSound (sym is) (look-sound c k g can s)
stays_sound c d (events.Split k) can is s = subst IsSound (sym is) (split-sound c k can s)
stays_sound c d (events.Join k j) can is s = subst IsSound (sym is) (join-sound c k j can s)

abbrev AllFound : List Fact → List Entry → Type 0
AllFound facts es = All (λ (e : Entry). Contains facts (fact_of e)) es

still_found : (facts : List Fact) (c d : Core) (event : Event) → (can : Needs c event) → After c event can d → IsFact facts event → AllFound facts c.history → AllFound facts d.history
still_found facts c d (events.Number k g kind source) can is fact h =
    let new : Entry = next_entry c k can.view g kind source in
    subst (λ (x : Core). AllFound facts x.history) (sym is) (All-push (λ (e : Entry). Contains facts (fact_of e)) c.history new h fact)
still_found facts c d (events.Mark k) can is fact h = subst (λ (x : Core). AllFound facts x.history) (sym is) h
still_found facts c d (events.Look k g) can is fact h = subst (λ (x : Core). AllFound facts x.history) (sym is) h
still_found facts c d (events.Split k) can is fact h = subst (λ (x : Core). AllFound facts x.history) (sym is) h
still_found facts c d (events.Join k j) can is fact h = subst (λ (x : Core). AllFound facts x.history) (sym is) h

pub initial_is_good : InitialIsGood
initial_is_good facts callers goals few = record { sound = initial-sound callers goals few; found = All-nil (λ (e : Entry). Contains facts (fact_of e)) }

pub stays_good : StaysGood
stays_good facts c d event good fact step = record {
  sound = stays_sound c d event step.can step.after good.sound;
  found = still_found facts c d event step.can step.after fact good.found;
}

pub stays_good_along : StaysGoodAlong
stays_good_along facts [] c d good all same = subst (λ (x : Core). Good x facts) same good
stays_good_along facts (event ∷ rest) c d good all leads = stays_good_along facts rest leads.0 d (stays_good facts c leads.0 event good all.0 leads.1) all.1 leads.2

fact_at : (facts : List Fact) (c : Core) (n : ℕ) (e : Entry) → Good c facts → IsEntry c.history n e → Contains facts (fact_of e)
fact_at facts c n e good at =
    subst (λ (x : Entry). Contains facts (fact_of x)) (get_or_from_slice_get c.history n e e at) (good.found n e (slice_get_within c.history n e at))

pub kinds_agree : KindsAgree
kinds_agree facts c m n e f agree good at_e at_f same = agree (fact_of e) (fact_of f) (fact_at facts c m e good at_e) (fact_at facts c n f good at_f) same
