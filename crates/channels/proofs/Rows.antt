-- Laws of channels: how a queue resumes in one, and what a change of one changes of all.
use Rattle.std.proofs.Common.{◌≡◌, ℕ, ◌+◌, ◌-◌, ◌*◌, ◌<◌, ◌≤◌, Bool, true, false, cond, ◌&&◌, eqb, ltb, leb, ◌≢◌, List, [], length, map, get_or, drop, set, replicate, Option, None, Some, sym, refl, subst, ap, ◌∙◌, ⊎_elim, arith, get_or-set_other, get_or-set_same}
use Rattle.std.proofs.lemmas.List.{get_or-map, get_or_default, set-get_or, map-set, get_or-replicate, get_or_past, length-map, length-replicate}
use Rattle.std.proofs.Math.ListN.{get_or-map as get_or-map_any}
use Rattle.std.proofs.lemmas.Bool.{cases_Bool, cases_eq, cases_lt, and_from, and_left, and_right, and_parts, lt-ltb, le-leb, le-ltb, ltb-true, ltb-false, eqb-true, eq-eqb, ne_eqb, cond-true, cond-false}
use Rattle.std.proofs.Math.Bridge.{le_prop}
use Rattle.std.specs.Option.{is_some, IfSome}
use Rattle.events.specs.declared.message.Message.{Message}
use Rattle.queue.specs.Ring.{held, within}
use Rattle.queue.proofs.Rings.{held_none, held_oldest}
use Rattle.channels.specs.declared.place.Place.{Place}
use Rattle.channels.specs.declared.channel.Channel.{Channel}
use Rattle.channels.specs.declared.channels.Channels.{Channels}
use Rattle.channels.specs.Waiting.{waiting, channel, first}

-- whether a queue can stand at this place in a row of slots
abbrev pub stands_in : List Message → Place → Bool
stands_in row p = within (length row) p.first p.count

-- what stands in a row of slots, the oldest first; nothing where no queue can stand so in it
abbrev pub ring : List Message → Place → List Message
ring row p = cond (stands_in row p) (held row p.first p.count) []

-- what any row holds is what the queue resumed in it holds, whatever the place
pub ring_resumed : (row : List Message) (p : Place) → ring row p ≡ held row (cond (stands_in row p) p.first 0) (cond (stands_in row p) p.count 0)
ring_resumed row p = either (stands_in row p)
  where
    either : (b : Bool) → cond b (held row p.first p.count) [] ≡ held row (cond b p.first 0) (cond b p.count 0)
    either true = refl
    either false = sym (held_none row 0 0 refl)

-- what waits in a channel is what stands in its slots
pub waiting_ring : (c : Channel) → waiting c ≡ ring c.slots c.place
waiting_ring c =
    ⊎_elim
    (λ within. sym (cond-true _ _ [] (and_from _ _ (lt-ltb c.place.first (length c.slots) within) (le-leb c.place.count (length c.slots) c.fits))))
    (λ out. held_none c.slots c.place.first c.place.count (omega (arith, c.begins, c.fits, out)) ∙ sym (cond-false _ _ [] (and_left _ _ (le-ltb c.place.first (length c.slots) out))))
    (cases_lt c.place.first (length c.slots))

-- the queue that is resumed in a channel holds what waits there
module _ (c : Channel) (eight : length c.slots ≡ 8) where
  abbrev stands : Bool
  stands = within (length c.slots) c.place.first c.place.count

  fits : stands ≡ true
  fits =
      let hf : c.place.first < length c.slots = omega (arith, c.begins, eight) in
      and_from (ltb c.place.first (length c.slots)) (leb c.place.count (length c.slots)) (lt-ltb c.place.first (length c.slots) hf) (le-leb c.place.count (length c.slots) c.fits)

  pub waiting_resumed : (s : List Message) (f n : ℕ) → s ≡ c.slots → f ≡ cond stands c.place.first 0 → n ≡ cond stands c.place.count 0 → waiting c ≡ held s f n
  waiting_resumed s f n es ef en =
      sym (ap (λ l. held l f n) es ∙ ap (λ k. held c.slots k n) (ef ∙ cond-true stands c.place.first 0 fits) ∙ ap (held c.slots c.place.first) (en ∙ cond-true stands c.place.count 0 fits))

-- a channel is known by its slots and its place
pub same_channel : (c : Channel) (s : List Message) → c.slots ≡ s → (b : c.place.first ≤ length s - 1) (n : c.place.count ≤ length s) → ◌≡◌ {A = Channel} (record { slots = s; place = c.place; begins = b; fits = n }) c
same_channel c s e =
    subst (λ (t : List Message). (b : c.place.first ≤ length t - 1) (n : c.place.count ≤ length t) → ◌≡◌ {A = Channel} (record { slots = t; place = c.place; begins = b; fits = n }) c) e
    (λ b n.
    let at : c.place.first ≤ length c.slots - 1 → c.place.count ≤ length c.slots → Channel = λ k l. record { slots = c.slots; place = c.place; begins = k; fits = l } in
    let first : (k : c.place.first ≤ length c.slots - 1) → k ≡ c.begins = λ k. le_prop k c.begins in
    let count : (k : c.place.count ≤ length c.slots) → k ≡ c.fits = λ k. le_prop k c.fits in
    ap (λ (k : c.place.first ≤ length c.slots - 1). at k n) (first b) ∙ ap (λ (k : c.place.count ≤ length c.slots). at c.begins k) (count n))

-- an answer that is there where something waits, and then is the message in the queue's first slot
pub oldest_if : (c : Channel) (d : Message) → length c.slots ≡ 8 → (o : Option Message) → is_some o ≡ ltb 0 c.place.count → IfSome o (λ m. m ≡ get_or c.slots c.place.first d) → o ≡ first (waiting c)
oldest_if c d eight None is at = sym (ap first (held_none c.slots c.place.first c.place.count (let none : c.place.count ≤ 0 = ltb-false 0 c.place.count (sym is) in omega arith)))
oldest_if c d eight (Some m) is at =
    let pos : 0 < c.place.count = ltb-true 0 c.place.count (sym is) in
    let hf : c.place.first < length c.slots = omega (arith, c.begins, eight) in
    sym (ap first (held_oldest c.slots c.place.first c.place.count m hf c.fits pos (at ∙ get_or_default c.slots c.place.first d m hf)))

-- the channel of a pair of roles
module _ (c : Channels) (a b : ℕ) where
  channel_row : a < 6 → b < 6 → channel c a b ≡ get_or (map waiting c.channels) (6 * a + b) []
  unfolding channel
  channel_row ha hb = cond-true (ltb a 6 && ltb b 6) _ [] (and_from (ltb a 6) (ltb b 6) (lt-ltb a 6 ha) (lt-ltb b 6 hb))

  pub no_channel : ((a < 6) × (b < 6) → ⊥) → channel c a b ≡ []
  unfolding channel
  no_channel none =
      ⊎_elim
      (λ t. absurd (none (ltb-true a 6 (and_parts (ltb a 6) (ltb b 6) t).0, ltb-true b 6 (and_parts (ltb a 6) (ltb b 6) t).1)))
      (λ t. cond-false (ltb a 6 && ltb b 6) _ [] t)
      (cases_Bool (ltb a 6 && ltb b 6))

-- a channel with no slots
abbrev pub blank : Channel
blank = record { slots = []; place = record { first = 0; count = 0 }; begins = omega arith; fits = omega arith }

-- what waits from one role to another is what the queue resumed in the channel with number i holds
module _ (c : Channels) (from to i : ℕ) (hf : from < 6) (ht : to < 6) (at : i ≡ 6 * from + to) where
  abbrev line : Channel
  line = get_or c.channels i blank

  pub channel_resumed : (s : List Message) (f n : ℕ) → s ≡ line.slots → f ≡ cond (stands_in line.slots line.place) line.place.first 0 → n ≡ cond (stands_in line.slots line.place) line.place.count 0 → channel c from to ≡ held s f n
  channel_resumed s f n es ef en =
      channel_row c from to hf ht ∙ ap (λ k. get_or (map waiting c.channels) k []) (sym at)
      ∙ ap (get_or (map waiting c.channels) i) (sym (held_none [] 0 0 refl)) ∙ get_or-map_any waiting c.channels i blank
      ∙ waiting_ring line ∙ ring_resumed line.slots line.place
      ∙ sym (ap (λ r. held r f n) es ∙ ap (λ k. held line.slots k n) ef ∙ ap (held line.slots _) en)

-- the channel with number i
module _ (c : Channels) (from to i : ℕ) (d : Channel) (hf : from < 6) (ht : to < 6) (at : i ≡ 6 * from + to) (here : i < length c.channels) where
  pub channel_at : channel c from to ≡ waiting (get_or c.channels i d)
  channel_at =
      channel_row c from to hf ht ∙ ap (λ k. get_or (map waiting c.channels) k []) (sym at)
      ∙ get_or-map waiting c.channels i d [] here

  -- it becomes y, and what waits in it is changed by F
  module _ (y : Channel) (F : List Message → List Message) (e : waiting y ≡ F (waiting (get_or c.channels i d))) where
    abbrev after : Channels
    after = record { channels = set c.channels i y }

    own : channel after from to ≡ F (channel c from to)
    own =
        channel_row after from to hf ht
        ∙ ap (λ k. get_or (map waiting after.channels) k []) (sym at)
        ∙ ap (λ l. get_or l i []) (map-set waiting c.channels i y)
        ∙ get_or-set_same (map waiting c.channels) i (waiting y) [] (let n : length (map waiting c.channels) ≡ length c.channels = length-map c.channels waiting in omega (arith, n, here))
        ∙ e ∙ ap F (sym channel_at)

    other : (a b : ℕ) → ((a ≡ from) × (b ≡ to) → ⊥) → channel after a b ≡ channel c a b
    unfolding channel
    other a b ne =
        ⊎_elim
        (λ t. let ha = ltb-true a 6 (and_parts (ltb a 6) (ltb b 6) t).0 in
        let hb = ltb-true b 6 (and_parts (ltb a 6) (ltb b 6) t).1 in
        let apart : 6 * a + b ≢ i = λ q. ne (omega (arith, q, ha, hb, ht, at), omega (arith, q, ha, hb, ht, at)) in
        ap (λ l. cond (ltb a 6 && ltb b 6) (get_or l (6 * a + b) []) []) (map-set waiting c.channels i y)
        ∙ ap (λ m. cond (ltb a 6 && ltb b 6) m []) (get_or-set_other (map waiting c.channels) i (6 * a + b) (waiting y) [] apart))
        (λ t. cond-false (ltb a 6 && ltb b 6) _ [] t ∙ sym (cond-false (ltb a 6 && ltb b 6) _ [] t))
        (cases_Bool (ltb a 6 && ltb b 6))

    pub changed : (a b : ℕ) → channel after a b ≡ cond (eqb a from && eqb b to) (F (channel c a b)) (channel c a b)
    changed a b =
        ⊎_elim
        (λ ea. ⊎_elim
        (λ eb. ap (λ n. channel after n b) ea ∙ ap (channel after from) eb ∙ own
        ∙ sym (cond-true (eqb a from && eqb b to) _ _ (and_from (eqb a from) (eqb b to) (eq-eqb a from ea) (eq-eqb b to eb)) ∙ ap (λ n. F (channel c n b)) ea ∙ ap (λ n. F (channel c from n)) eb))
        (λ nb. other a b (λ q. nb q.1) ∙ sym (cond-false (eqb a from && eqb b to) _ _ (and_right (eqb a from) (eqb b to) (ne_eqb b to nb))))
        (cases_eq b to))
        (λ na. other a b (λ q. na q.0) ∙ sym (cond-false (eqb a from && eqb b to) _ _ (and_left (eqb a from) (eqb b to) (ne_eqb a from na))))
        (cases_eq a from)

-- the same channel put back
pub put_back : (c : Channels) (i : ℕ) (y d : Channel) → y ≡ get_or c.channels i d → ◌≡◌ {A = Channels} (record { channels = set c.channels i y }) c
put_back c i y d e = ap (λ l. record { channels = l }) (ap (set c.channels i) e ∙ set-get_or c.channels i d)

-- nothing is changed, where nothing waits
pub unchanged : (c d : Channels) (from to : ℕ) → d ≡ c → channel c from to ≡ [] → (a b : ℕ) → channel d a b ≡ cond (eqb a from && eqb b to) (drop 1 (channel c a b)) (channel c a b)
unchanged c d from to same none a b =
    ⊎_elim
    (λ t. let ea = eqb-true a from (and_parts (eqb a from) (eqb b to) t).0 in
    let eb = eqb-true b to (and_parts (eqb a from) (eqb b to) t).1 in
    let here : channel c a b ≡ [] = ap (λ n. channel c n b) ea ∙ ap (channel c from) eb ∙ none in
    ap (λ k. channel k a b) same ∙ here ∙ sym (cond-true (eqb a from && eqb b to) _ _ t ∙ ap (drop 1) here))
    (λ t. ap (λ k. channel k a b) same ∙ sym (cond-false (eqb a from && eqb b to) _ _ t))
    (cases_Bool (eqb a from && eqb b to))

-- nothing waits where each channel is one in which nothing waits
pub nothing_waits : (x : Channel) (n : ℕ) → waiting x ≡ [] → (a b : ℕ) → channel (record { channels = replicate n x }) a b ≡ []
unfolding channel
nothing_waits x n none a b =
    let at = 6 * a + b in
    let row : get_or (map waiting (replicate n x)) at [] ≡ [] =
    ⊎_elim
    (λ h. let l = length-replicate n x in get_or-map waiting (replicate n x) at x [] (omega (arith, h, l)) ∙ ap waiting (get_or-replicate n at x x h) ∙ none)
    (λ h. let l = length-replicate n x in let m : length (map waiting (replicate n x)) ≡ length (replicate n x) = length-map (replicate n x) waiting in get_or_past (map waiting (replicate n x)) at [] (omega (arith, h, l, m)))
    (cases_lt at n) in
    ⊎_elim
    (λ t. cond-true (ltb a 6 && ltb b 6) _ [] t ∙ row)
    (λ t. cond-false (ltb a 6 && ltb b 6) _ [] t)
    (cases_Bool (ltb a 6 && ltb b 6))
