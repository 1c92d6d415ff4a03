-- The examples, by computation.
use Rattle.std.proofs.Common.{◌≡◌, ℕ, zero, suc, ◌<◌, ◌≤◌, true, ltb, ◌⊎◌, List, [], ◌∷◌, ◌++◌, length, get_or, Some, None, sym, refl, ap, ◌∙◌, subst, inl, inr, arith}
use mathlib.Core.List.{Memᴰ}
use Rattle.std.specs.List.{AllByRecursion, list_all}
use Rattle.std.proofs.lemmas.List.Elements.{recursion_from_All}
use Rattle.std.proofs.lemmas.List.Sums.{AllPass-from_list_all}
use Rattle.sheet.specs.Model.{Sheet}
use Rattle.sheet.specs.Encode.{encode}
use Rattle.sheet.specs.Decode.{table}
use Rattle.sheet.specs.Names.{alike}
use Rattle.sheet.specs.Refuse.{count_fault, header_fault, placed, branch_fault, fault}
use Rattle.sheet.specs.Law.{Bytes}
use Rattle.sheet.specs.Valid.{Valid}
use Rattle.sheet.proofs.Sound.{sound}
use Rattle.sheet.proofs.Pieces.{model_encode}
use Rattle.protocol.specs.Places.{Place, Has}
use Rattle.protocol.specs.Actions.{Way, sends, receives, Action, sending, receiving, turn}
use Rattle.protocol.specs.Paths.{PathFrom, share}
use Rattle.protocol.specs.Sets.{here, on, Acts, Start, After, Followed}
use Rattle.protocol.specs.Accepted.{HasPart, Accepted}
use Rattle.std.proofs.lemmas.Bool.{ltb-true}
use Rattle.protocol.proofs.Listed.{places, listed_from_has, place_at}
use Rattle.protocol.proofs.Checked.{part_true}
use Rattle.events.specs.declared.event.Event.{Event}
use Rattle.runs.specs.Events.{direction_of, mine, own, along, sent, taken}
use Rattle.runs.specs.Run.{Rising, InOrder, Channels, Beginning, timings, Timely, Run}
use Rattle.runs.specs.Waiting.{waiting}
use Rattle.runs.specs.Steady.{Steady, AllSteady}
use Rattle.runs.specs.Stands.{SetAfter}
use Rattle.runs.specs.Closing.{Finished, Whole, Completes}
use Rattle.runs.specs.Laws.{Least, Could}
use Rattle.runs.specs.Examples.{branch, event, oven, windows, heated, falling, unsent, astray, neither, late, early, heating, TimelyOnSomePath, NoRun, OvenExamples, ticker, sendings, TickerExamples, relay, untold, declined, ThirdPartyExamples}
use Rattle.runs.proofs.Own.{mine_other, own_push_same, own_unknown, along_direction, not_sending, more_hit, more_none}
use Rattle.runs.proofs.Clocks.{Follows, beginning, timely}
use Rattle.runs.proofs.Growth.{Fit, in_order_step, channels_now, channels_push, channels_none}
use Rattle.runs.proofs.Ending.{end_reaches}

-- a sheet whose encoding has no fault is valid
bytes_by_test : (xs : List ℕ) → list_all (λ b. ltb b 256) xs ≡ true → Bytes xs
bytes_by_test xs q = recursion_from_All (λ b. b < 256) xs (λ k d l. ltb-true (get_or xs k d) 256 (AllPass-from_list_all (λ b. ltb b 256) xs q k d l))

valid_by_test : (sh : Sheet) → list_all (λ b. ltb b 256) (encode sh) ≡ true → fault (encode sh) ≡ None → Valid sh
valid_by_test sh ok clean = subst Valid (model_encode sh) (sound (encode sh) (bytes_by_test (encode sh) ok) clean).valid

oven_valid : Valid oven
unfolding encode fault header_fault count_fault table placed branch_fault alike
oven_valid = valid_by_test oven refl refl

oven_accepted : Accepted oven
unfolding turn
oven_accepted zero l = part_true oven 0 (1 ∷ 0 ∷ []) ((0 ∷ []) ∷ (1 ∷ []) ∷ (2 ∷ []) ∷ []) refl
oven_accepted (suc zero) l = part_true oven 1 (1 ∷ 0 ∷ []) ((0 ∷ []) ∷ (1 ∷ []) ∷ (2 ∷ []) ∷ []) refl
oven_accepted (suc (suc m)) l = absurd (omega arith)

-- one event more in the channels
channels_add : (d : ℕ) (es : List Event) (e : Event) (w : Way) → Channels d es → e.direction ≡ direction_of w → Fit d es e w → Channels d (es ++ (e ∷ []))
channels_add d es e w c q fit = channels_push d es e c (in_order_step d es e w q (channels_now d es c) fit)

-- the first place of a path of the oven sheet
abbrev heat_place : Place
heat_place = place_at 0 0 1 (branch 0 1 255 0 3)

abbrev hot_place : Place
hot_place = place_at 1 1 0 (branch 1 2 1 255 0)

first_place : (p : Place) → Has oven p → p.state ≡ 0 → p ≡ heat_place
first_place p h s = go (listed_from_has oven p h)
  where
    go : Memᴰ p (places oven) → p ≡ heat_place
    go (Memᴰ.head q) = q
    go (Memᴰ.tail (Memᴰ.head q)) = absurd (let z : p.state ≡ 1 = ap (λ (x : Place). x.state) q in omega arith)
    go (Memᴰ.tail (Memᴰ.tail (Memᴰ.head q))) = absurd (let z : p.state ≡ 1 = ap (λ (x : Place). x.state) q in omega arith)
    go (Memᴰ.tail (Memᴰ.tail (Memᴰ.tail i))) = elim i [ ]

abbrev fault_place : Place
fault_place = place_at 1 1 0 (branch 2 2 255 255 0)

second_place : (p : Place) → Has oven p → p.state ≡ 1 → (p ≡ hot_place) ⊎ (p ≡ fault_place)
second_place p h s = go (listed_from_has oven p h)
  where
    go : Memᴰ p (places oven) → (p ≡ hot_place) ⊎ (p ≡ fault_place)
    go (Memᴰ.head q) = absurd (let z : p.state ≡ 0 = ap (λ (x : Place). x.state) q in omega arith)
    go (Memᴰ.tail (Memᴰ.head q)) = inl q
    go (Memᴰ.tail (Memᴰ.tail (Memᴰ.head q))) = inr q
    go (Memᴰ.tail (Memᴰ.tail (Memᴰ.tail i))) = elim i [ ]

abbrev whole_path : List Place
whole_path = heat_place ∷ hot_place ∷ []

whole_leads : PathFrom oven 0 whole_path
whole_leads = (
  record { branches = branch 0 1 255 0 3 ∷ []; stands = refl; among = Memᴰ.head refl },
  refl,
  (record { branches = branch 1 2 1 255 0 ∷ branch 2 2 255 255 0 ∷ []; stands = refl; among = Memᴰ.head refl }, refl, tt),
)

abbrev short_path : List Place
short_path = heat_place ∷ []

short_leads : PathFrom oven 0 short_path
short_leads = (record { branches = branch 0 1 255 0 3 ∷ []; stands = refl; among = Memᴰ.head refl }, refl, tt)

-- what every role follows is the third and the fourth point
on_some_path : (sh : Sheet) (es : List Event) → AllByRecursion (λ e. e.role < length sh.roles) es → (path : List Place) → PathFrom sh 0 path → (o : ℕ) → ((m : ℕ) → Follows windows o (own m es) (share m path)) → TimelyOnSomePath sh windows o es
on_some_path sh es known path leads o f = record {
  third = record { known = known; path = path; leads = leads; shares = λ m. beginning windows o (own m es) (share m path) (f m) };
  clocks = λ m. timely windows o (own m es) (share m path) (f m);
}

run_from : (sh : Sheet) (o d : ℕ) (es : List Event) → Rising o es → Channels d es → TimelyOnSomePath sh windows o es → Run sh windows o d es
run_from sh o d es ticks channels t = record {
  ticks = ticks;
  channels = channels;
  known = t.third.known;
  path = t.third.path;
  leads = t.third.leads;
  shares = t.third.shares;
  clocks = t.clocks;
}

heated_known : AllByRecursion (λ e. e.role < length oven.roles) heated
heated_known = omega arith

heated_follows : (m : ℕ) → Follows windows 100 (own m heated) (share m whole_path)
unfolding mine turn
heated_follows zero = (record { direction = refl; partner = refl; label = refl }, inl refl, (record { direction = refl; partner = refl; label = refl }, inl refl, tt))
heated_follows (suc zero) = (record { direction = refl; partner = refl; label = refl }, inr (omega arith), (record { direction = refl; partner = refl; label = refl }, inr (omega arith, omega arith), tt))
heated_follows (suc (suc m)) = rw (own_unknown 2 (suc (suc m)) (omega arith) heated heated_known) tt

heated_channels : Channels 8 heated
unfolding mine along waiting
heated_channels =
    channels_add 8 (event 0 0 1 0 103 ∷ event 1 1 0 0 105 ∷ event 1 0 0 1 125 ∷ []) (event 0 1 1 1 130) receives
    (channels_add 8 (event 0 0 1 0 103 ∷ event 1 1 0 0 105 ∷ []) (event 1 0 0 1 125) sends
    (channels_add 8 (event 0 0 1 0 103 ∷ []) (event 1 1 0 0 105) receives
    (channels_add 8 [] (event 0 0 1 0 103) sends (channels_none 8) refl (omega arith))
    refl (_, _, refl, refl)) refl (omega arith)) refl (_, _, refl, refl)

heated_run : Run oven windows 100 8 heated
heated_run = run_from oven 100 8 heated (omega arith) heated_channels (on_some_path oven heated heated_known whole_path whole_leads 100 heated_follows)

heated_completes : Completes oven heated
unfolding mine turn
heated_completes = record { path = whole_path; leads = whole_leads; ends = refl; shares = shares }
  where
    shares : (m : ℕ) → m < length oven.roles → Whole (own m heated) (share m whole_path)
    shares zero l = record { begin = beginning windows 100 (own 0 heated) (share 0 whole_path) (heated_follows 0); all = refl }
    shares (suc zero) l = record { begin = beginning windows 100 (own 1 heated) (share 1 whole_path) (heated_follows 1); all = refl }
    shares (suc (suc m)) l = absurd (omega arith)

-- The first point. HEAT is sent, and taken at tick t.
abbrev taken_at : ℕ → List Event
taken_at t = event 0 0 1 0 103 ∷ event 1 1 0 0 t ∷ []

taken_channels : (t : ℕ) → Channels 8 (taken_at t)
unfolding mine along waiting
taken_channels t =
    channels_add 8 (event 0 0 1 0 103 ∷ []) (event 1 1 0 0 t) receives
    (channels_add 8 [] (event 0 0 1 0 103) sends (channels_none 8) refl (omega arith))
    refl (_, _, refl, refl)

falling_follows : (m : ℕ) → Follows windows 100 (own m falling) (share m short_path)
unfolding mine turn
falling_follows zero = (record { direction = refl; partner = refl; label = refl }, inl refl, tt)
falling_follows (suc zero) = (record { direction = refl; partner = refl; label = refl }, inr (omega arith), tt)
falling_follows (suc (suc m)) = rw (own_unknown 2 (suc (suc m)) (omega arith) falling (omega arith)) tt

falling_falls : NoRun falling × Channels 8 falling × TimelyOnSomePath oven windows 100 falling
falling_falls = (λ r. let x : 103 ≤ 102 = r.ticks.1.0 in omega arith, taken_channels 102, on_some_path oven falling (omega arith) short_path short_leads 100 falling_follows)

-- The second point.
unsent_follows : (m : ℕ) → Follows windows 100 (own m unsent) (share m short_path)
unfolding mine turn
unsent_follows zero = (record { direction = refl; partner = refl; label = refl }, inl refl, tt)
unsent_follows (suc zero) = (record { direction = refl; partner = refl; label = refl }, inr (omega arith), tt)
unsent_follows (suc (suc m)) = rw (own_unknown 2 (suc (suc m)) (omega arith) unsent (omega arith)) tt

unsent_taken : NoRun unsent
unfolding mine along
unsent_taken r = cc ((r.channels (event 1 1 0 0 103 ∷ []) (event 0 0 1 0 103 ∷ []) refl 0 1).0.1)

unsent_takes : NoRun unsent × Rising 100 unsent × TimelyOnSomePath oven windows 100 unsent
unsent_takes = (unsent_taken, omega arith, on_some_path oven unsent (omega arith) short_path short_leads 100 unsent_follows)

-- The third point.
astray_path : (path : List Place) → PathFrom oven 0 path → Beginning (own 1 astray) (share 1 path) → ⊥
unfolding mine turn
astray_path [] leads b = b
astray_path (p ∷ path) leads b =
    let c : Beginning (own 1 astray) (share 1 (heat_place ∷ path)) = subst (λ (q : Place). Beginning (own 1 astray) (share 1 (q ∷ path))) (first_place p leads.0 leads.1) b in
    let d : ◌≡◌ {A = ℕ} 0 1 = c.0.direction in
    omega arith

-- HOT is sent, and nothing else
astray_channels : Channels 8 astray
unfolding mine along waiting
astray_channels = channels_add 8 [] (event 1 0 0 1 103) sends (channels_none 8) refl (omega arith)

neither_path : (path : List Place) → PathFrom oven 0 path → Beginning (own 0 neither) (share 0 path) → ⊥
unfolding mine turn
neither_path [] leads b = b
neither_path (p ∷ path) leads b =
    let c : Beginning (own 0 neither) (share 0 (heat_place ∷ path)) = subst (λ (q : Place). Beginning (own 0 neither) (share 0 (q ∷ path))) (first_place p leads.0 leads.1) b in
    let d : ◌≡◌ {A = ℕ} 2 0 = c.0.direction in
    omega arith

-- an event without a direction touches no channel
neither_channels : Channels 8 neither
neither_channels = channels_push 8 [] (event 0 2 1 0 103) (channels_none 8) quiet
  where
    sends_none : (a b : ℕ) → sent a b neither ≡ []
    sends_none a b = more_none sends b [] (event 0 2 1 0 103) (along_direction sends b (event 0 2 1 0 103) (λ q. omega arith)) a

    takes_none : (a b : ℕ) → taken a b neither ≡ []
    takes_none a b = more_none receives a [] (event 0 2 1 0 103) (along_direction receives a (event 0 2 1 0 103) (λ q. omega arith)) b

    quiet : (a b : ℕ) → InOrder 8 neither a b
    quiet a b = rw (sends_none a b, takes_none a b) (([], refl), omega arith)

-- The fourth point.
late_path : (path : List Place) → PathFrom oven 0 path → Beginning (own 1 late) (share 1 path) → Timely windows 100 (own 1 late) (timings (share 1 path)) → ⊥
unfolding mine turn
late_path [] leads b t = b
late_path (p ∷ path) leads b t =
    let c : Timely windows 100 (own 1 late) (timings (share 1 (heat_place ∷ path))) = subst (λ (q : Place). Timely windows 100 (own 1 late) (timings (share 1 (q ∷ path)))) (first_place p leads.0 leads.1) t in
    closed (c [] [] (event 1 1 0 0 106) refl [] (timings (share 1 path)) (receiving heat_place).timing refl refl)
  where
    closed : (◌≡◌ {A = ℕ} 0 255) ⊎ (◌≤◌ 6 5) → ⊥
    closed (inl q) = omega arith
    closed (inr q) = omega arith

late_follows : (m : ℕ) → Beginning (own m late) (share m short_path)
unfolding mine turn
late_follows zero = (record { direction = refl; partner = refl; label = refl }, tt)
late_follows (suc zero) = (record { direction = refl; partner = refl; label = refl }, tt)
late_follows (suc (suc m)) = rw (own_unknown 2 (suc (suc m)) (omega arith) late (omega arith)) tt

-- the same, once HEAT was taken in time
early_channels : Channels 8 early
unfolding mine along waiting
early_channels = channels_add 8 (taken_at 105) (event 1 0 0 1 124) sends (taken_channels 105) refl (omega arith)

abbrev EarlyOn : List Place → Type 0
EarlyOn path = Beginning (own 1 early) (share 1 path) × Timely windows 100 (own 1 early) (timings (share 1 path))

early_hot : (path : List Place) → EarlyOn (heat_place ∷ hot_place ∷ path) → ⊥
unfolding mine turn
early_hot path x = closed (x.1 (event 1 1 0 0 105 ∷ []) [] (event 1 0 0 1 124) refl ((receiving heat_place).timing ∷ []) (timings (share 1 path)) (sending hot_place).timing refl refl)
  where
    closed : (◌≡◌ {A = ℕ} 1 255) ⊎ ((◌≤◌ 20 19) × (◌≤◌ 19 40)) → ⊥
    closed (inl q) = omega arith
    closed (inr q) = omega arith

early_fault : (path : List Place) → EarlyOn (heat_place ∷ fault_place ∷ path) → ⊥
unfolding mine turn
early_fault path x = let q : ◌≡◌ {A = ℕ} 1 2 = x.0.1.0.label in omega arith

early_short : EarlyOn (heat_place ∷ []) → ⊥
unfolding mine turn
early_short x = x.0.1

early_none : EarlyOn [] → ⊥
unfolding mine
early_none x = x.0

early_path : (path : List Place) → PathFrom oven 0 path → EarlyOn path → ⊥
early_path [] leads x = early_none x
early_path (p ∷ []) leads x = early_short (subst (λ (q : Place). EarlyOn (q ∷ [])) (first_place p leads.0 leads.1) x)
early_path (p ∷ (q ∷ path)) leads x =
    let is : p ≡ heat_place = first_place p leads.0 leads.1 in
    go (second_place q leads.2.0 (leads.2.1 ∙ ap (λ (z : Place). z.branch.next) is)) (subst (λ (z : Place). EarlyOn (z ∷ q ∷ path)) is x)
  where
    go : (q ≡ hot_place) ⊎ (q ≡ fault_place) → EarlyOn (heat_place ∷ q ∷ path) → ⊥
    go (inl e) y = early_hot path (subst (λ (z : Place). EarlyOn (heat_place ∷ z ∷ path)) e y)
    go (inr e) y = early_fault path (subst (λ (z : Place). EarlyOn (heat_place ∷ z ∷ path)) e y)

early_follows : (m : ℕ) → Beginning (own m early) (share m whole_path)
unfolding mine turn
early_follows zero = (record { direction = refl; partner = refl; label = refl }, tt)
early_follows (suc zero) = (record { direction = refl; partner = refl; label = refl }, (record { direction = refl; partner = refl; label = refl }, tt))
early_follows (suc (suc m)) = rw (own_unknown 2 (suc (suc m)) (omega arith) early (omega arith)) tt

-- Foresight. OVEN can send FAULT at once.
abbrev faulty : List Event
faulty = event 0 0 1 0 103 ∷ event 1 1 0 0 105 ∷ event 1 0 0 2 105 ∷ []

fault_leads : PathFrom oven 0 (heat_place ∷ fault_place ∷ [])
fault_leads = (
  record { branches = branch 0 1 255 0 3 ∷ []; stands = refl; among = Memᴰ.head refl },
  refl,
  (record { branches = branch 1 2 1 255 0 ∷ branch 2 2 255 255 0 ∷ []; stands = refl; among = Memᴰ.tail (Memᴰ.head refl) }, refl, tt),
)

fault_follows : (m : ℕ) → Follows windows 100 (own m faulty) (share m (heat_place ∷ fault_place ∷ []))
unfolding mine turn
fault_follows zero = (record { direction = refl; partner = refl; label = refl }, inl refl, tt)
fault_follows (suc zero) = (record { direction = refl; partner = refl; label = refl }, inr (omega arith), (record { direction = refl; partner = refl; label = refl }, inl refl, tt))
fault_follows (suc (suc m)) = rw (own_unknown 2 (suc (suc m)) (omega arith) faulty (omega arith)) tt

fault_channels : Channels 8 faulty
unfolding mine along waiting
fault_channels = channels_add 8 (taken_at 105) (event 1 0 0 2 105) sends (taken_channels 105) refl (omega arith)

fault_run : Run oven windows 100 8 faulty
fault_run = run_from oven 100 8 faulty (omega arith) fault_channels (on_some_path oven faulty (omega arith) (heat_place ∷ fault_place ∷ []) fault_leads 100 fault_follows)

oven_next : Least (Could oven windows 100 8 heating 1) 105 4294967295 (Some 105)
oven_next = (omega arith, omega arith, (event 1 0 0 2 105, refl, refl, fault_run), λ u l k x. omega arith)

-- MAIN can only take from OVEN, and nothing waits there.
abbrev MainOn : Event → List Place → Type 0
MainOn e path = Beginning (event 0 0 1 0 103 ∷ e ∷ []) (share 0 path)

abbrev Takes : Event → Type 0
Takes e = (e.direction ≡ 1) × (e.partner ≡ 1)

main_hot : (e : Event) (path : List Place) → MainOn e (heat_place ∷ hot_place ∷ path) → Takes e
unfolding turn
main_hot e path b = (b.1.0.direction, b.1.0.partner)

main_fault : (e : Event) (path : List Place) → MainOn e (heat_place ∷ fault_place ∷ path) → Takes e
unfolding turn
main_fault e path b = (b.1.0.direction, b.1.0.partner)

main_short : (e : Event) → MainOn e (heat_place ∷ []) → Takes e
unfolding turn
main_short e b = absurd b.1

main_path : (e : Event) (path : List Place) → PathFrom oven 0 path → MainOn e path → Takes e
main_path e [] leads b = absurd b
main_path e (p ∷ []) leads b = main_short e (subst (λ (q : Place). MainOn e (q ∷ [])) (first_place p leads.0 leads.1) b)
main_path e (p ∷ (q ∷ path)) leads b =
    let is : p ≡ heat_place = first_place p leads.0 leads.1 in
    go (second_place q leads.2.0 (leads.2.1 ∙ ap (λ (z : Place). z.branch.next) is)) (subst (λ (z : Place). MainOn e (z ∷ q ∷ path)) is b)
  where
    go : (q ≡ hot_place) ⊎ (q ≡ fault_place) → MainOn e (heat_place ∷ q ∷ path) → Takes e
    go (inl x) y = main_hot e path (subst (λ (z : Place). MainOn e (heat_place ∷ z ∷ path)) x y)
    go (inr x) y = main_fault e path (subst (λ (z : Place). MainOn e (heat_place ∷ z ∷ path)) x y)

main_own : (e : Event) → e.role ≡ 0 → own 0 (heating ++ (e ∷ [])) ≡ event 0 0 1 0 103 ∷ e ∷ []
unfolding mine
main_own e q = own_push_same 0 heating e (sym q)

oven_sent_nothing : sent 1 0 heating ≡ []
unfolding mine along
oven_sent_nothing = refl

main_took_nothing : taken 1 0 heating ≡ []
unfolding mine along
main_took_nothing = refl

main_next : Least (Could oven windows 100 8 heating 0) 105 4294967295 None
main_next u l k x = blocked x.0 x.1 x.3
  where
    blocked : (e : Event) → e.role ≡ 0 → Run oven windows 100 8 (heating ++ (e ∷ [])) → ⊥
    blocked e q r =
        let t = main_path e r.path r.leads (subst (λ (z : List Event). Beginning z (share 0 r.path)) (main_own e q) (r.shares 0)) in
        let b = (channels_now 8 (heating ++ (e ∷ [])) r.channels 1 0).0 in
        let s : sent 1 0 (heating ++ (e ∷ [])) ≡ [] = more_none sends 0 heating e (not_sending 0 e t.0) 1 ∙ oven_sent_nothing in
        let w : taken 1 0 (heating ++ (e ∷ [])) ≡ e ∷ [] = more_hit receives 1 heating e t.0 t.1 0 (sym q) ∙ ap (λ (z : List Event). z ++ (e ∷ [])) main_took_nothing in
        cc

pub oven_examples : OvenExamples
oven_examples = record {
  valid = oven_valid;
  accepted = oven_accepted;
  run = heated_run;
  completes = heated_completes;
  falls = falling_falls;
  takes_unsent = unsent_takes;
  strays = (λ r. astray_path r.path r.leads (r.shares 1), omega arith, astray_channels);
  has_no_direction = (λ r. neither_path r.path r.leads (r.shares 0), omega arith, neither_channels);
  is_late = (λ r. late_path r.path r.leads (r.shares 1) (r.clocks 1), omega arith, taken_channels 106, record { known = omega arith; path = short_path; leads = short_leads; shares = late_follows });
  is_early = (λ r. early_path r.path r.leads (r.shares 1, r.clocks 1), omega arith, early_channels, record { known = omega arith; path = whole_path; leads = whole_leads; shares = early_follows });
  oven_next = oven_next;
  main_next = main_next;
}

-- The ticker.
abbrev tick : Place
tick = place_at 0 0 1 (branch 0 0 255 255 0)

abbrev ticks : ℕ → List Place
ticks zero = []
ticks (suc n) = tick ∷ ticks n

ticks_lead : (n : ℕ) → PathFrom ticker 0 (ticks n)
ticks_lead zero = tt
ticks_lead (suc n) = (record { branches = branch 0 0 255 255 0 ∷ []; stands = refl; among = Memᴰ.head refl }, refl, ticks_lead n)

ticks_known : (n : ℕ) → AllByRecursion (λ e. e.role < length ticker.roles) (sendings n)
ticks_known zero = tt
ticks_known (suc n) = (omega arith, ticks_known n)

ticks_follow : (n m : ℕ) → Follows windows 0 (own m (sendings n)) (share m (ticks n))
unfolding mine turn
ticks_follow zero m = tt
ticks_follow (suc n) zero = (record { direction = refl; partner = refl; label = refl }, inl refl, ticks_follow n zero)
ticks_follow (suc n) (suc m) = rw (own_silent (suc n) m) tt
  where
    own_silent : (n m : ℕ) → own (suc m) (sendings n) ≡ []
    own_silent zero m = refl
    own_silent (suc n) m = rw (mine_other (suc m) (event 0 0 1 0 7) (λ q. omega arith)) (own_silent n m)

ticks_timely : (n : ℕ) → TimelyOnSomePath ticker windows 0 (sendings n)
ticks_timely n = on_some_path ticker (sendings n) (ticks_known n) (ticks n) (ticks_lead n) 0 (ticks_follow n)

abbrev one_tick : Event
one_tick = event 0 0 1 0 7

eight_channels : Channels 8 (sendings 8)
unfolding mine along waiting
eight_channels =
    channels_add 8 (sendings 7) one_tick sends (channels_add 8 (sendings 6) one_tick sends (channels_add 8 (sendings 5) one_tick sends (channels_add 8 (sendings 4) one_tick sends
    (channels_add 8 (sendings 3) one_tick sends (channels_add 8 (sendings 2) one_tick sends (channels_add 8 (sendings 1) one_tick sends (channels_add 8 [] one_tick sends (channels_none 8)
    refl (omega arith)) refl (omega arith)) refl (omega arith)) refl (omega arith)) refl (omega arith)) refl (omega arith)) refl (omega arith)) refl (omega arith)

nine_wait : Run ticker windows 0 8 (sendings 9) → ⊥
unfolding mine along
nine_wait r = let x : 9 ≤ 8 = (r.channels (sendings 9) [] refl 0 1).1 in omega arith

pub ticker_examples : TickerExamples
ticker_examples = record { eight = run_from ticker 0 8 (sendings 8) (omega arith) eight_channels (ticks_timely 8); nine = (nine_wait, ticks_timely 9) }

-- The third party.
relay_valid : Valid relay
unfolding encode fault header_fault count_fault table placed branch_fault alike
relay_valid = valid_by_test relay refl refl

untold_valid : Valid untold
unfolding encode fault header_fault count_fault table placed branch_fault alike
untold_valid = valid_by_test untold refl refl

relay_accepted : Accepted relay
unfolding turn
relay_accepted zero l = part_true relay 0 (0 ∷ []) ((0 ∷ []) ∷ (1 ∷ 3 ∷ []) ∷ (2 ∷ 3 ∷ []) ∷ []) refl
relay_accepted (suc zero) l = part_true relay 1 (2 ∷ 1 ∷ 0 ∷ []) ((0 ∷ []) ∷ (1 ∷ []) ∷ (2 ∷ []) ∷ (3 ∷ []) ∷ []) refl
relay_accepted (suc (suc zero)) l = part_true relay 2 (2 ∷ 1 ∷ 0 ∷ []) ((0 ∷ 1 ∷ 2 ∷ []) ∷ (3 ∷ []) ∷ []) refl
relay_accepted (suc (suc (suc m))) l = absurd (omega arith)

abbrev go_place : Place
go_place = place_at 0 0 1 (branch 0 1 255 255 0)

abbrev no_place : Place
no_place = place_at 0 0 1 (branch 1 2 255 255 0)

abbrev run_place : Place
run_place = place_at 1 1 2 (branch 2 2 255 255 0)

go_stands : Has untold go_place
go_stands = record { branches = branch 0 1 255 255 0 ∷ branch 1 2 255 255 0 ∷ []; stands = refl; among = Memᴰ.head refl }

no_stands : Has untold no_place
no_stands = record { branches = branch 0 1 255 255 0 ∷ branch 1 2 255 255 0 ∷ []; stands = refl; among = Memᴰ.tail (Memᴰ.head refl) }

-- C's start set holds a state in which C acts, and the end
start_acts : Start untold 2 1
unfolding turn
start_acts = on go_place go_stands (here refl) refl refl

start_ends : Start untold 2 2
unfolding turn
start_ends = on no_place no_stands (here refl) refl refl

runs_there : Acts untold 2 1 (receiving run_place)
unfolding turn
runs_there = (2, record { place = run_place; has = record { branches = branch 2 2 255 255 0 ∷ []; stands = refl; among = Memᴰ.head refl }; at = refl; acts = refl; leads = refl })

untold_refused : Accepted untold → ⊥
untold_refused accepted = end_reaches untold 2 2 refl (((accepted 2 (omega arith)).sound [] tt).told 1 start_acts (receiving run_place) runs_there 2 start_ends)

-- C has one action in the whole sheet, and it is no sending
only_receives : (s : ℕ) (a : Action) → Acts untold 2 s a → a ≡ receiving run_place
unfolding turn
only_receives s a i = go i.1.place i.1.acts (listed_from_has untold i.1.place i.1.has)
  where
    go : (p : Place) → turn 2 p ≡ a ∷ [] → Memᴰ p (places untold) → a ≡ receiving run_place
    go p t (Memᴰ.head q) = absurd (cc (ap (turn 2) q))
    go p t (Memᴰ.tail (Memᴰ.head q)) = absurd (cc (ap (turn 2) q))
    go p t (Memᴰ.tail (Memᴰ.tail (Memᴰ.head q))) = cc (ap (turn 2) q)
    go p t (Memᴰ.tail (Memᴰ.tail (Memᴰ.tail i))) = elim i [ ]

never_sends : {A : Type 0} (s : ℕ) (a : Action) → Acts untold 2 s a → a.way ≡ sends → A
never_sends s a i w =
    let q = only_receives s a i in
    absurd cc

part_steady : (sh : Sheet) (m : ℕ) → HasPart sh m → (ls : List ℕ) → Followed sh m (Start sh m) ls → Steady sh m (After sh m (Start sh m) ls)
part_steady sh m part ls f =
    let ok = part.sound ls f in
    record { one_side = ok.one_side; same_offer = ok.same_offer; no_clash = ok.no_clash; told = λ s x a i w. ok.told s x a i }

untold_steady : AllSteady untold
unfolding turn
untold_steady zero l ls f = part_steady untold 0 (part_true untold 0 (0 ∷ []) ((0 ∷ []) ∷ (1 ∷ 2 ∷ []) ∷ (2 ∷ []) ∷ []) refl) ls f
untold_steady (suc zero) l ls f = part_steady untold 1 (part_true untold 1 (1 ∷ 0 ∷ []) ((0 ∷ []) ∷ (1 ∷ []) ∷ (2 ∷ []) ∷ []) refl) ls f
untold_steady (suc (suc zero)) l ls f = record {
  one_side = λ s t x y a b i j. let q : a ≡ b = only_receives s a i ∙ sym (only_receives t b j) in (ap (λ (z : Action). z.way) q, ap (λ (z : Action). z.partner) q);
  same_offer = λ s t x y a b i j w. never_sends s a i w;
  no_clash = λ s t x y a b i j w k. ap (λ (z : Action). z.timing) (only_receives s a i ∙ sym (only_receives t b j));
  told = λ s x a i w. never_sends s a i w;
}
untold_steady (suc (suc (suc m))) l ls f = absurd (omega arith)

declined_known : AllByRecursion (λ e. e.role < length untold.roles) declined
declined_known = omega arith

declined_follows : (m : ℕ) → Follows windows 0 (own m declined) (share m (no_place ∷ []))
unfolding mine turn
declined_follows zero = (record { direction = refl; partner = refl; label = refl }, inl refl, tt)
declined_follows (suc zero) = (record { direction = refl; partner = refl; label = refl }, inl refl, tt)
declined_follows (suc (suc m)) = rw (declined_none (suc (suc m)) (omega arith)) tt
  where
    declined_none : (m : ℕ) → 2 ≤ m → own m declined ≡ []
    declined_none m l = own_unknown 2 m l declined (omega arith)

declined_channels : Channels 8 declined
unfolding mine along waiting
declined_channels =
    channels_add 8 (event 0 0 1 1 5 ∷ []) (event 1 1 0 1 6) receives (channels_add 8 [] (event 0 0 1 1 5) sends (channels_none 8) refl (omega arith)) refl (_, _, refl, refl)

declined_run : Run untold windows 0 8 declined
declined_run = run_from untold 0 8 declined (omega arith) declined_channels (on_some_path untold declined declined_known (no_place ∷ []) (no_stands, refl, tt) 0 declined_follows)

declined_completes : Completes untold declined
unfolding mine turn
declined_completes = record { path = no_place ∷ []; leads = (no_stands, refl, tt); ends = refl; shares = shares }
  where
    shares : (m : ℕ) → m < length untold.roles → Whole (own m declined) (share m (no_place ∷ []))
    shares zero l = record { begin = beginning windows 0 (own 0 declined) (share 0 (no_place ∷ [])) (declined_follows 0); all = refl }
    shares (suc zero) l = record { begin = beginning windows 0 (own 1 declined) (share 1 (no_place ∷ [])) (declined_follows 1); all = refl }
    shares (suc (suc zero)) l = record { begin = beginning windows 0 (own 2 declined) (share 2 (no_place ∷ [])) (declined_follows 2); all = refl }
    shares (suc (suc (suc m))) l = absurd (omega arith)

untold_waits : Finished untold 2 (SetAfter untold 2 declined) → ⊥
unfolding mine
untold_waits finished = finished 1 start_acts (receiving run_place) runs_there

pub third_party_examples : ThirdPartyExamples
third_party_examples = record {
  relay_valid = relay_valid;
  relay_accepted = relay_accepted;
  untold_valid = untold_valid;
  untold_refused = untold_refused;
  untold_steady = untold_steady;
  untold_run = declined_run;
  untold_completes = declined_completes;
  untold_waits = untold_waits;
}
