-- Channels stay in order when a sender's oldest sending is taken away, and with it the receiver's oldest taking.
use Rattle.std.proofs.Common.{◌≡◌, ℕ, ◌≢◌, ◌⊎◌, List, [], ◌∷◌, ◌++◌, sym, refl, ap, ◌∙◌, subst₂, inl, inr}
use Rattle.std.proofs.lemmas.Bool.{cases_eq}
use Rattle.protocol.specs.Actions.{sends, receives}
use Rattle.events.specs.declared.event.Event.{Event}
use Rattle.runs.specs.Events.{direction_of, own, exchanged, sent, taken, labels}
use Rattle.runs.specs.Run.{Begins}
use Rattle.runs.proofs.Own.{Front, Less, Without, own_append, along_partner, not_taking, not_sending, less_none, less_other, less_hit, more_hit, more_none}

-- taken in sending order
abbrev pub Fifo : List Event → Type 0
Fifo es = (a b : ℕ) → Begins (labels (taken a b es)) (labels (sent a b es))

-- at every moment
abbrev pub AlwaysFifo : List Event → Type 0
AlwaysFifo es = (g : List Event) → Front g es → Fifo g

begins_tail : (l : ℕ) (xs ys : List ℕ) → Begins (l ∷ xs) (l ∷ ys) → Begins xs ys
begins_tail l xs ys b = (b.0, cc)

begins_head : (l k : ℕ) (xs ys : List ℕ) → Begins (l ∷ xs) (k ∷ ys) → l ≡ k
begins_head l k xs ys b = cc

-- e is the oldest sending from A to B, which goes
module _ (A B : ℕ) (apart : A ≢ B) (es rest : List Event) (e : Event) (w : Less A e es rest) (direction : e.direction ≡ direction_of sends) (partner : e.partner ≡ B) (fifo : Fifo es) where
  sent_less : (a b : ℕ) → (a ≢ A) ⊎ (b ≢ B) → sent a b es ≡ sent a b rest
  sent_less a b (inl n) = less_other A e es rest w sends b a n
  sent_less a b (inr n) = less_none A e es rest w sends b (along_partner sends b e (λ h. n (sym h ∙ partner))) a

  taken_less : (a b : ℕ) → taken a b es ≡ taken a b rest
  taken_less a b = less_none A e es rest w receives a (not_taking a e direction) b

  pub fifo_one : own B es ≡ [] → Fifo rest
  fifo_one none a b = go (cases_eq a A) (cases_eq b B)
    where
      keep : (a ≢ A) ⊎ (b ≢ B) → Begins (labels (taken a b rest)) (labels (sent a b rest))
      keep n = rw (← (sent_less a b n), ← (taken_less a b)) (fifo a b)

      go : (a ≡ A) ⊎ (a ≡ A → ⊥) → (b ≡ B) ⊎ (b ≡ B → ⊥) → Begins (labels (taken a b rest)) (labels (sent a b rest))
      go (inl x) (inl y) = rw (← (taken_less a b), y, none) (labels (sent a B rest), refl)
      go (inl x) (inr n) = keep (inr n)
      go (inr n) (inl y) = keep (inl n)
      go (inr n) (inr l) = keep (inl n)

  -- f is the oldest taking of B from A, which goes too
  module _ (last : List Event) (f : Event) (u : Less B f rest last) (f-direction : f.direction ≡ direction_of receives) (f-partner : f.partner ≡ A) where
    both : Begins (f.label ∷ labels (taken A B last)) (e.label ∷ labels (sent A B last))
    both =
        let s : sent A B es ≡ e ∷ sent A B last = less_hit A e es rest w sends B direction partner ∙ ap (λ (z : List Event). e ∷ z) (less_other B f rest last u sends B A apart) in
        let t : taken A B es ≡ f ∷ taken A B last = taken_less A B ∙ less_hit B f rest last u receives A f-direction f-partner in
        subst₂ Begins (ap labels t) (ap labels s) (fifo A B)

    pub labels_meet : e.label ≡ f.label
    labels_meet = sym (begins_head f.label e.label (labels (taken A B last)) (labels (sent A B last)) both)

    pub fifo_two : Fifo last
    fifo_two a b = go (cases_eq a A) (cases_eq b B)
      where
        sent_least : (a ≢ A) ⊎ (b ≢ B) → sent a b es ≡ sent a b last
        sent_least n = sent_less a b n ∙ less_none B f rest last u sends b (not_sending b f f-direction) a

        taken_least : (a ≢ A) ⊎ (b ≢ B) → taken a b es ≡ taken a b last
        taken_least (inl n) = taken_less a b ∙ less_none B f rest last u receives a (along_partner receives a f (λ h. n (sym h ∙ f-partner))) b
        taken_least (inr n) = taken_less a b ∙ less_other B f rest last u receives a b n

        keep : (a ≢ A) ⊎ (b ≢ B) → Begins (labels (taken a b last)) (labels (sent a b last))
        keep n = rw (← (sent_least n), ← (taken_least n)) (fifo a b)

        go : (a ≡ A) ⊎ (a ≡ A → ⊥) → (b ≡ B) ⊎ (b ≡ B → ⊥) → Begins (labels (taken a b last)) (labels (sent a b last))
        go (inl x) (inl y) = rw (x, y) (begins_tail e.label (labels (taken A B last)) (labels (sent A B last)) (rw (← labels_meet) at both))
        go (inl x) (inr n) = keep (inr n)
        go (inr n) (inl y) = keep (inl n)
        go (inr n) (inr l) = keep (inl n)

front_own : (m : ℕ) (g es : List Event) → Front g es → own m es ≡ [] → own m g ≡ []
front_own m g es b q = none (own m g) (own m b.0) (sym (own_append m g b.0) ∙ sym (ap (own m) b.1) ∙ q)
  where
    none : (xs ys : List Event) → xs ++ ys ≡ [] → xs ≡ []
    none [] ys r = refl
    none (x ∷ xs) ys r = cc

-- the same at every moment
module _ (A B : ℕ) (apart : A ≢ B) (es : List Event) (e : Event) (r : List Event) (w : Without A es e r) (direction : e.direction ≡ direction_of sends) (partner : e.partner ≡ B) (fifo : AlwaysFifo es) where
  -- B has no event left in what comes from that beginning of the list
  one_at : (g : List Event) → (Front g es × (own A g ≡ [])) ⊎ ((f : List Event) × Front f es × Less A e f g) → own B g ≡ [] → Fifo g
  one_at g (inl x) none = fifo g x.0
  one_at g (inr x) none = fifo_one A B apart x.0 g e x.2 direction partner (fifo x.0 x.1) (x.2.others B (λ h. apart (sym h)) ∙ none)

  pub always_one : own B es ≡ [] → AlwaysFifo w.rest
  always_one none g b = one_at g (w.fronts g b) (front_own B g w.rest b (sym (w.less.others B (λ h. apart (sym h))) ∙ none))

  module _ (f : Event) (rB : List Event) (u : Without B w.rest f rB) (f-direction : f.direction ≡ direction_of receives) (f-partner : f.partner ≡ A) where
    two_at : (g k : List Event) → Less B f k g → (Front k es × (own A k ≡ [])) ⊎ ((i : List Event) × Front i es × Less A e i k) → Fifo g
    two_at g k l (inl x) =
        let b = fifo k x.0 A B in
        let s : labels (sent A B k) ≡ [] = ap (λ (z : List Event). labels (exchanged sends B z)) x.1 in
        let t : labels (taken A B k) ≡ f.label ∷ labels (taken A B g) = ap labels (less_hit B f k g l receives A f-direction f-partner) in
        absurd cc
    two_at g k l (inr x) = fifo_two A B apart x.0 k e x.2 direction partner (fifo x.0 x.1) g f l f-direction f-partner

    pub always_two : AlwaysFifo u.rest
    always_two g b = go (u.fronts g b)
      where
        go : (Front g w.rest × (own B g ≡ [])) ⊎ ((k : List Event) × Front k w.rest × Less B f k g) → Fifo g
        go (inl x) = one_at g (w.fronts g x.0) x.1
        go (inr x) = two_at g x.0 x.2 (w.fronts x.0 x.1)

-- the first event of all takes nothing
pub first_sends : (e : Event) → Fifo (e ∷ []) → e.direction ≡ direction_of receives → ⊥
first_sends e fifo d =
    let b = fifo e.partner e.role in
    let s : labels (sent e.partner e.role (e ∷ [])) ≡ [] = ap labels (more_none sends e.role [] e (not_sending e.role e d) e.partner) in
    let t : labels (taken e.partner e.role (e ∷ [])) ≡ e.label ∷ [] = ap labels (more_hit receives e.partner [] e d refl e.role refl) in
    cc
