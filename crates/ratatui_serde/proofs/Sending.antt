-- Events that are sent one after the other.
use Rattle.std.proofs.Common.{◌≡◌, ℕ, List, [], ◌∷◌, ◌++◌, Option, Some, None, fold, ap, ◌∙◌, subst}
use Rattle.std.proofs.lemmas.List.{append_assoc}
use Rattle.serde.specs.Event.{Event, Logs, map_begins, map_ends}
use Rattle.ratatui_serde.specs.Events.{SendsAll}

-- some, and then more
sends-then : (old mid new : Option (List Event)) (es fs : List Event) → SendsAll es old mid
    → SendsAll fs mid new → SendsAll (es ++ fs) old new
sends-then None mid new es fs a b = tt
sends-then (Some was) mid new es fs a b =
    let last : new ≡ Some ((was ++ es) ++ fs) = subst (λ l. SendsAll fs l new) a b in
    last ∙ ap Some (append_assoc was es fs)

sends-one : (old new : Option (List Event)) (e : Event) → Logs old new e → SendsAll (e ∷ []) old new
sends-one None new e h = tt
sends-one (Some was) new e h = h

-- five members in a map
pub sends-members : (l0 l1 l2 l3 l4 l5 l6 l7 : Option (List Event)) (n m : ℕ) (a b c d e : List Event) → n ≡ m
    → Logs l0 l1 (map_begins (Some n)) → SendsAll a l1 l2 → SendsAll b l2 l3 → SendsAll c l3 l4
    → SendsAll d l4 l5 → SendsAll e l5 l6 → Logs l6 l7 map_ends
    → SendsAll (map_begins (Some m) ∷ (fold (λ es more. es ++ more) [] (a ∷ b ∷ c ∷ d ∷ e ∷ [])
    ++ map_ends ∷ [])) l0 l7
sends-members l0 l1 l2 l3 l4 l5 l6 l7 n m a b c d e is first ha hb hc hd he last =
    let begun : SendsAll (map_begins (Some m) ∷ []) l0 l1 =
    subst (λ k. SendsAll (map_begins (Some k) ∷ []) l0 l1) is (sends-one l0 l1 (map_begins (Some n)) first) in
    let ab = sends-then l1 l2 l3 a b ha hb in
    let abc = sends-then l1 l3 l4 (a ++ b) c ab hc in
    let abcd = sends-then l1 l4 l5 ((a ++ b) ++ c) d abc hd in
    let all = sends-then l1 l5 l6 (((a ++ b) ++ c) ++ d) e abcd he in
    let end = sends-one l6 l7 map_ends last in
    let rest = sends-then l1 l6 l7 ((((a ++ b) ++ c) ++ d) ++ e) (map_ends ∷ []) all end in
    sends-then l0 l1 l7 (map_begins (Some m) ∷ []) (((((a ++ b) ++ c) ++ d) ++ e) ++ map_ends ∷ []) begun rest
