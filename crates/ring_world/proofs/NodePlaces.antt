-- The place of a node in the lists of a world's code, and the lists with another node in that place.
use Rattle.std.proofs.Common.{◌≡◌, ℕ, zero, suc, ◌-◌, ◌<◌, ◌≤◌, true, false, ◌==◌, List, [], ◌∷◌, length, length-set}
use Rattle.std.proofs.Common.{Some, slice_get, get_or, ap, ◌∙◌, sym, subst, arith, inl, inr}
use Rattle.std.specs.Prelude.{slice_set}
use Rattle.std.proofs.lemmas.Bool.{cond-true, cond-false, and_from, le-leb, eqb-true, eqb-false, eq-eqb, cases_Bool}
use Rattle.std.proofs.lemmas.Bool.Decides.{nat_tests}
use Rattle.std.proofs.lemmas.Option.{get_or_from_slice_get, slice_get_within}
use Rattle.ring_base.specs.Group.{Group}
use Rattle.ring_base.specs.Processors.{IsProc}
use Rattle.ring_base.proofs.ListPlaces.{get-set, get-set_other}
use Rattle.ring_object.specs.Operations.{Sequential}
use Rattle.ring_payload.specs.declared.call.Call.{Call}
use Rattle.ring_core_spec.specs.State.{Transmission}
use Rattle.ring_node_spec.specs.Nodes.{Node}
use Rattle.ring_node_spec.specs.declared.event.Event.{Event}
use Rattle.ring_node_spec.specs.declared.item.Item.{Item}
use Rattle.ring_node_spec.specs.declared.client_report.Told.{Told}
use Rattle.ring_node_spec.specs.Worlds.{World, with_node, is_node}
use Rattle.ring_world.specs.WorldView.{WorldView, told_of_events, world_of}
use Rattle.ring_world.specs.SpareCalls.{SpareCalls, Holds}
use Rattle.ring_world.specs.WorldInvariant.{KeepsCopies, IsWorldKept, IsWorld}

-- the lists are those of a world, with its processor i at index m of the nodes
pub record Stands {O A : Type 0} (object : Sequential O) (p old : WorldView A) (nodes : List (Node A)) (spares : List (SpareCalls A))
    (frames : List (Transmission A)) (history : List (Item A)) (longest : List (Call A)) (i m : ℕ) : Type 0 where
  pub was : p ≡ old
  pub world : IsWorld object p.group p.events nodes spares frames history p.told longest
  pub low : 1 ≤ i
  pub at : m ≡ i - 1
  pub inside : m < length nodes

-- The index as the code computes it

module _ {O A : Type 0} {object : Sequential O} {p old : WorldView A} {nodes : List (Node A)} {spares : List (SpareCalls A)}
    {frames : List (Transmission A)} {history : List (Item A)} {longest : List (Call A)} {i number place many len : ℕ} (was : p ≡ old)
    (world : IsWorld object p.group p.events nodes spares frames history p.told longest)
    (number_is : number ≡ i) (proc : IsProc number) (place_is : place ≡ number) (many_is : many ≡ length nodes) (len_is : len ≡ many) where
  pub stands : place - 1 < len → Stands object p old nodes spares frames history longest i (place - 1)
  stands inside = record {
    was = was;
    world = world;
    low = (let low = proc.0 in omega (arith, number_is, low));
    at = ap (λ x. x - 1) (place_is ∙ number_is);
    inside = omega (arith, many_is, len_is, inside);
  }

  -- there is no node past the last
  pub unknown : len ≤ place - 1 → is_node (world_of object old) i ≡ false
  unknown past =
      let low = proc.0 in
      let many = world.kept.many in
      let one : 1 ≤ i = omega (arith, number_is, low) in
      let far : (world_of object p).group.count ≤ i - 1 = omega (arith, past, many, many_is, len_is, place_is, number_is) in
      subst (λ (r : WorldView A). is_node (world_of object r) i ≡ false) was (grind (arith, nat_tests, one, far))

-- equal lists, such as those in which room was made
pub roomy : {O A : Type 0} {object : Sequential O} {p old : WorldView A} {nodes : List (Node A)} {spares : List (SpareCalls A)}
    {frames frames' : List (Transmission A)} {history history' : List (Item A)} {longest longest' : List (Call A)} {i m : ℕ} {events : List (Event A)}
    {told : List (Told A)} → Stands object p old nodes spares frames history longest i m → events ≡ p.events → told ≡ p.told → history' ≡ history
    → frames' ≡ frames → longest' ≡ longest
    → Stands object (record { group = p.group; events = events; told = told; done = p.done }) old nodes spares frames' history' longest' i m
roomy {A = A} {p = p} {events = events} {told = told} here e t hs fs ls =
    let of_events : List (Event A) → WorldView A = λ es. record { group = p.group; events = es; told = told; done = p.done } in
    let of_told : List (Told A) → WorldView A = λ ts. record { group = p.group; events = p.events; told = ts; done = p.done } in
    record {
      was = ap of_events e ∙ ap of_told t ∙ here.was;
      world = rw (e, t, hs, fs, ls) here.world;
      low = here.low;
      at = here.at;
      inside = here.inside;
    }

set-same : {X : Type 0} (xs : List X) (i : ℕ) (x : X) → slice_get xs i ≡ Some x → slice_set xs i x ≡ xs
set-same [] i x e = absurd (let q : ⊥ = cc e in q)
set-same (y ∷ xs) zero x e = (let q : y ≡ x = cc e in ap (λ z. z ∷ xs) (sym q))
set-same (y ∷ xs) (suc i) x e = ap (λ zs. y ∷ zs) (set-same xs i x e)

at-set : {X : Type 0} (xs : List X) (i : ℕ) (x y : X) → i < length xs → y ≡ get_or (slice_set xs i x) i y → y ≡ x
at-set [] i x y l e = absurd (omega (arith, l))
at-set (z ∷ xs) zero x y l e = e
at-set (z ∷ xs) (suc i) x y l e = at-set xs i x y (omega (arith, l)) e

at-get : {X : Type 0} (xs : List X) (i : ℕ) (x y : X) → slice_get xs i ≡ Some y → x ≡ get_or xs i x → x ≡ y
at-get xs i x y e is = is ∙ get_or_from_slice_get xs i y x e

eq_test : (i j : ℕ) → i ≡ j → (i == j) ≡ true
eq_test i j e = eq-eqb i j e

not_test : (i j : ℕ) → (i ≡ j → ⊥) → (i == j) ≡ false
not_test i j f = elim (cases_Bool (i == j)) [ inl t ↦ absurd (f (eqb-true i j t)) | inr e ↦ e ]

module _ {O A : Type 0} {object : Sequential O} {p old : WorldView A} {nodes : List (Node A)} {spares : List (SpareCalls A)}
    {frames : List (Transmission A)} {history : List (Item A)} {longest : List (Call A)} {i m : ℕ}
    (here : Stands object p old nodes spares frames history longest i m) where
  abbrev w : World A
  w = world_of object p

  abbrev kept : IsWorldKept w nodes spares frames history p.told longest
  kept = here.world.kept

  count : w.group.count ≡ p.group.count
  count = ap (λ (g : Group). g.count) here.world.same

  below : m < w.group.count
  below = (let inside = here.inside in let many = kept.many in omega (arith, inside, many))

  next : suc m ≡ i
  next = (let low = here.low in let at = here.at in omega (arith, low, at))

  pub high : i ≤ p.group.count
  high = (let b = below in let n = next in let c = count in omega (arith, b, n, c))

  pub known : is_node w i ≡ true
  known = (let b = below in let n = next in and_from _ _ (le-leb 1 i here.low) (le-leb i w.group.count (omega (arith, b, n))))

  pub node_is : {n : Node A} → n ≡ get_or nodes m n → n ≡ w.nodes i
  node_is {n} is = at-get nodes m n (w.nodes (suc m)) (kept.nodes_are m below) is ∙ ap w.nodes next

  pub copies_are : {s : SpareCalls A} → s ≡ get_or spares m s → KeepsCopies (w.nodes i) s
  copies_are {s} is =
      let c = kept.copies m below in
      subst (λ (t : SpareCalls A). KeepsCopies (w.nodes i) t) (sym (at-get spares m s c.0 c.1 is)) (subst (λ j. KeepsCopies (w.nodes j) c.0) next c.2)

  pub spare_there : m < length spares
  spare_there = (let b = below in let many = kept.copies_many in omega (arith, b, many))

  -- the copies put there
  pub spare_put : {s : SpareCalls A} (t : SpareCalls A) → s ≡ get_or (slice_set spares m t) m s → s ≡ t
  spare_put {s} t is = at-set spares m t s spare_there is

  -- the node put there
  pub node_put : {n : Node A} (t : Node A) → n ≡ get_or (slice_set nodes m t) m n → n ≡ t
  node_put {n} t is = at-set nodes m t n here.inside is

  -- Another node

  put_at : (n : Node A) (j : ℕ) → j ≡ m → with_node w.nodes i n (suc j) ≡ n
  put_at n j e = cond-true (suc j == i) n (w.nodes (suc j)) (let q : suc j ≡ i = ap suc e ∙ next in eq_test (suc j) i q)

  put_other : (n : Node A) (j : ℕ) → (j ≡ m → ⊥) → with_node w.nodes i n (suc j) ≡ w.nodes (suc j)
  put_other n j f = cond-false (suc j == i) n (w.nodes (suc j)) (not_test (suc j) i (λ q. f (let x = next in omega (arith, q, x))))

  nodes_put : (n : Node A) (j : ℕ) → j < w.group.count → slice_get (slice_set nodes m n) j ≡ Some (with_node w.nodes i n (suc j))
  nodes_put n j l = elim (cases_Bool (j == m)) [
    | inl t ↦
        let e = eqb-true j m t in
        ap (slice_get (slice_set nodes m n)) e ∙ get-set nodes m n (slice_get_within nodes m (w.nodes (suc m)) (kept.nodes_are m below)) ∙ ap Some (sym (put_at n j e))
    | inr f ↦
        let e = eqb-false j m f in
        get-set_other nodes m j n e ∙ kept.nodes_are j l ∙ ap Some (sym (put_other n j e))
  ]

  abbrev pub Copied : Node A → List (SpareCalls A) → Type 0
  Copied n ss = (j : ℕ) → j < w.group.count → (s : SpareCalls A) × (slice_get ss j ≡ Some s) × KeepsCopies (with_node w.nodes i n (suc j)) s

  pub copies_set : (n : Node A) (s : SpareCalls A) → KeepsCopies n s → Copied n (slice_set spares m s)
  copies_set n s k j l = elim (cases_Bool (j == m)) [
    | inl t ↦
        let e = eqb-true j m t in
        let c = kept.copies m below in
        (s, (ap (slice_get (slice_set spares m s)) e ∙ get-set spares m s (slice_get_within spares m c.0 c.1)), subst (λ (x : Node A). KeepsCopies x s) (sym (put_at n j e)) k)
    | inr f ↦
        let e = eqb-false j m f in
        let c = kept.copies j l in
        (c.0, (get-set_other spares m j s e ∙ c.1), subst (λ (x : Node A). KeepsCopies x c.0) (sym (put_other n j e)) c.2)
  ]

  pub copies_same : (n : Node A) → ((s : SpareCalls A) → KeepsCopies (w.nodes i) s → KeepsCopies n s) → Copied n spares
  copies_same n k j l = elim (cases_Bool (j == m)) [
    | inl t ↦
        let e = eqb-true j m t in
        let c = kept.copies j l in
        let there = subst (λ x. KeepsCopies (w.nodes x) c.0) (ap suc e ∙ next) c.2 in
        (c.0, c.1, subst (λ (x : Node A). KeepsCopies x c.0) (sym (put_at n j e)) (k c.0 there))
    | inr f ↦
        let e = eqb-false j m f in
        let c = kept.copies j l in
        (c.0, c.1, subst (λ (x : Node A). KeepsCopies x c.0) (sym (put_other n j e)) c.2)
  ]

  pub put_kept : {ss : List (SpareCalls A)} {fs : List (Transmission A)} {is : List (Item A)} {ts : List (Told A)} {ls : List (Call A)} {v : World A} (n : Node A) →
      v.group ≡ w.group → v.nodes ≡ with_node w.nodes i n → v.frames ≡ fs → v.history ≡ is → v.told ≡ told_of_events ts → v.longest ≡ ls →
      Copied n ss → length ss ≡ length spares → IsWorldKept v (slice_set nodes m n) ss fs is ts ls
  put_kept {v = v} n g ns f hs t l copied many =
      let cs : v.group.count ≡ w.group.count = ap (λ (x : Group). x.count) g in
      record {
        nodes_are = λ j below. nodes_put n j (omega (arith, below, cs)) ∙ ap (λ (x : ℕ → Node A). Some (x (suc j))) (sym ns);
        many = length-set nodes m n ∙ kept.many ∙ sym cs;
        copies = λ j below. (let c = copied j (omega (arith, below, cs)) in (c.0, c.1, subst (λ (x : ℕ → Node A). KeepsCopies (x (suc j)) c.0) (sym ns) c.2));
        copies_many = many ∙ kept.copies_many ∙ sym cs;
        frames_are = sym f;
        history_is = sym hs;
        told_is = sym t;
        longest_is = sym l;
      }

  pub same_nodes : {n : Node A} → n ≡ w.nodes i → slice_set nodes m n ≡ nodes
  same_nodes is = ap (slice_set nodes m) is ∙ set-same nodes m (w.nodes i) (kept.nodes_are m below ∙ ap (λ j. Some (w.nodes j)) next)

  -- Other copies, with the same calls

  spared_copies : (s : SpareCalls A) → KeepsCopies (w.nodes i) s → (j : ℕ) → j < w.group.count →
      (t : SpareCalls A) × (slice_get (slice_set spares m s) j ≡ Some t) × KeepsCopies (w.nodes (suc j)) t
  spared_copies s k j l = elim (cases_Bool (j == m)) [
    | inl t ↦
        let e = eqb-true j m t in
        let c = kept.copies m below in (
          s,
          (ap (slice_get (slice_set spares m s)) e ∙ get-set spares m s (slice_get_within spares m c.0 c.1)),
          subst (λ x. KeepsCopies (w.nodes x) s) (sym (ap suc e ∙ next)) k,
        )
    | inr f ↦
        let e = eqb-false j m f in
        let c = kept.copies j l in
        (c.0, (get-set_other spares m j s e ∙ c.1), c.2)
  ]

  pub spared : {s : SpareCalls A} (t : SpareCalls A) → s ≡ get_or spares m s → t.calls ≡ s.calls →
      Stands object p old nodes (slice_set spares m t) frames history longest i m
  spared t is same =
      let n = w.nodes i in
      let k : KeepsCopies n t = subst (λ cs. Holds cs n.tickets n.done) (sym same) (copies_are is) in
      record {
        was = here.was;
        world = record {
          kept = record {
            nodes_are = kept.nodes_are;
            many = kept.many;
            copies = spared_copies t k;
            copies_many = length-set spares m t ∙ kept.copies_many;
            frames_are = kept.frames_are;
            history_is = kept.history_is;
            told_is = kept.told_is;
            longest_is = kept.longest_is;
          };
          same = here.world.same;
          fit = here.world.fit;
          few = here.world.few;
        };
        low = here.low;
        at = here.at;
        inside = here.inside;
      }
