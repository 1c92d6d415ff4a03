-- The numbers of a valid sheet fit into masks.
use Rattle.std.proofs.Common.{◌≡◌, ℕ, List, [], map, ap, ◌∙◌, subst, arith}
use mathlib.Core.List.Memᴰ
use mathlib.Core.List.{Memᴰ}
use Rattle.std.proofs.lemmas.List.Elements.{All-map, All-weaker}
use Rattle.sheet.specs.Model.{Sheet}
use Rattle.sheet.specs.Valid.{Valid}
use Rattle.protocol.specs.Places.{Place}
use Rattle.protocol.proofs.Known.{state_known, good_branch}
use Rattle.protocol.proofs.Turns.{asked_label}
use Rattle.parting.specs.declared.act.Act.{Act}
use Rattle.parting.specs.declared.edge.Edge.{Edge}
use Rattle.parting.specs.Bounds.{SmallPlace, SmallPlaces, SmallAct, SmallActs, SmallEdge, SmallEdges}
use Rattle.parting.specs.Family.{View, view_of}
use Rattle.parting.specs.View.{places, acts, acts_at, silent_edges, silent_at, edge_of, back_edge, acting_states_of, leading, action_of}
use Rattle.parting.specs.Spread.{spread}
use Rattle.parting.proofs.Gathering.{all_mem, mem_all}
use Rattle.parting.proofs.Viewing.{joined_from, has_from, act_at, Side, as_sender, as_receiver, apart, side}

pub small_places_lem : (sh : Sheet) → Valid sh → SmallPlaces (places sh)
small_places_lem sh v = mem_all SmallPlace (places sh) (λ p i.
    let h = has_from sh p i in
    let g = good_branch sh v p h in
    let n = v.state_count.1 in
    let l = v.label_count.1 in
    (omega (arith, state_known sh v p h, n), omega (arith, g.next, n), omega (arith, g.label, l)))

module _ (m : ℕ) (ps : List Place) (small : SmallPlaces ps) where
  pub small_acts_lem : SmallActs (acts m ps)
  small_acts_lem = mem_all SmallAct (acts m ps) (λ a i.
      let r = joined_from (acts_at m) ps a i in
      let s = all_mem SmallPlace ps small r.0 r.1 in
      let q = act_at m r.0 a r.2 in
      let l : a.label ≡ r.0.branch.label = asked_label m r.0 (action_of a) q.2 in
      (omega (arith, s.0, q.0), omega (arith, s.1, q.1), omega (arith, s.2, l)))

  pub small_silent : SmallEdges (silent_edges m ps)
  small_silent = mem_all SmallEdge (silent_edges m ps) (λ e i.
      let r = joined_from (silent_at m) ps e i in
      one e r.0 (all_mem SmallPlace ps small r.0 r.1) r.2 (side m r.0))
    where
      one : (e : Edge) (p : Place) → SmallPlace p → Memᴰ e (silent_at m p) → Side m p → SmallEdge e
      one e p s j (as_sender _ _ z) = let k : Memᴰ e [] = subst (Memᴰ e) z j in elim k [ ]
      one e p s j (as_receiver _ _ z) = let k : Memᴰ e [] = subst (Memᴰ e) z j in elim k [ ]
      one e p s j (apart _ _ z) =
          let q : e ≡ edge_of p = Memᴰ.eq_of_singleton (subst (Memᴰ e) z j) in
          (omega (arith, ap (λ (x : Edge). x.from) q, s.0), omega (arith, ap (λ (x : Edge). x.to) q, s.1))

pub small_back : (ps : List Place) → SmallPlaces ps → SmallEdges (map back_edge ps)
small_back ps small = All-map SmallEdge back_edge ps (All-weaker SmallPlace (λ p. SmallEdge (back_edge p)) (λ p h. (h.1, h.0)) ps small)

-- a view by its parts
pub view_is : (m : ℕ) (ps : List Place) (as' : List Act) (es back : List Edge) (start lead : ℕ) → as' ≡ acts m ps → es ≡ silent_edges m ps → back ≡ map back_edge ps → start ≡ acting_states_of as' → lead ≡ spread back start
    → ◌≡◌ {A = View} (record { acts = as'; silent = es; leading = lead }) (view_of m ps)
unfolding leading
view_is m ps as' es back start lead a e b s l =
    let q : lead ≡ spread (map back_edge ps) (acting_states_of (acts m ps)) = l ∙ ap (λ x. spread x start) b ∙ ap (spread (map back_edge ps)) (s ∙ ap acting_states_of a) in
    λ i. record { acts = a i; silent = e i; leading = q i }
