-- A log that is answered call by call.
use Rattle.std.proofs.Common.{◌≡◌, ℕ, ◌+◌, ◌<◌, List, [], ◌∷◌, ◌++◌, length, get_or, take, set, sym, refl, ap, ◌∙◌, subst}
use Rattle.std.proofs.lemmas.List.{take_more_set, map-set, set-get_or, get_or-map}
use Rattle.sheet.specs.Model.{Sheet}
use Rattle.events.specs.declared.event.Event.{Event}
use Rattle.parting.specs.declared.accepted.Accepted.{Accepted}
use Rattle.runs.specs.Run.{Book}
use Rattle.events.specs.declared.call.Entry.{Entry}
use Rattle.session.specs.declared.inner.Inner.{Inner}
use Rattle.session.specs.Calls.{Answer, Right, after, passed, Prescribed, call_of, calls}
use Rattle.session.specs.Watches.{Watches}

pub passed_push : (es : List Event) (xs : List Entry) (x : Entry) → passed es (xs ++ (x ∷ [])) ≡ after (passed es xs) x.call x.answer
passed_push es [] x = refl
passed_push es (y ∷ xs) x = passed_push (after es y.call y.answer) xs x

pub prescribed_push : (sh : Sheet) (book : Book) (o d : ℕ) (es : List Event) (xs : List Entry) (x : Entry)
    → Prescribed sh book o d es xs → Right sh book o d (passed es xs) x.call x.answer → Prescribed sh book o d es (xs ++ (x ∷ []))
prescribed_push sh book o d es [] x p r = (r, tt)
prescribed_push sh book o d es (y ∷ xs) x p r = (p.0, prescribed_push sh book o d (after es y.call y.answer) xs x p.1 r)

-- the answers are prescribed, and the session stands after what passed
abbrev pub Answered : Sheet → Book → ℕ → ℕ → List Entry → Accepted → Inner → Type 0
Answered sh book o d xs accepted inner = Prescribed sh book o d [] xs × Watches sh book o d (passed [] xs) accepted inner

-- one more call, answered at its place in the log
module _ (log : List Entry) (i : ℕ) (blank : Entry) (answer : Answer) (l : i < length log) where
  abbrev pub answered : Entry
  answered = record { call = (get_or log i blank).call; answer = answer }

  pub calls_stay : calls (set log i answered) ≡ calls log
  calls_stay = map-set call_of log i answered ∙ ap (set (calls log) i) (sym (get_or-map call_of log i blank (call_of blank) l)) ∙ set-get_or (calls log) i (call_of blank)

  pub passed_more : passed [] (take (i + 1) (set log i answered)) ≡ after (passed [] (take i log)) answered.call answer
  passed_more = ap (passed []) (take_more_set log i answered l) ∙ passed_push [] (take i log) answered

  pub prescribed_more : (sh : Sheet) (book : Book) (o d : ℕ) → Prescribed sh book o d [] (take i log) → Right sh book o d (passed [] (take i log)) answered.call answer
      → Prescribed sh book o d [] (take (i + 1) (set log i answered))
  prescribed_more sh book o d p r = subst (Prescribed sh book o d []) (sym (take_more_set log i answered l)) (prescribed_push sh book o d [] (take i log) answered p r)

  pub answered_more : (sh : Sheet) (book : Book) (o d : ℕ) (accepted : Accepted) (inner : Inner)
      → Prescribed sh book o d [] (take i log)
      → Right sh book o d (passed [] (take i log)) answered.call answer × Watches sh book o d (after (passed [] (take i log)) answered.call answer) accepted inner
      → Answered sh book o d (take (i + 1) (set log i answered)) accepted inner
  answered_more sh book o d accepted inner p r = (prescribed_more sh book o d p r.0, subst (λ (es : List Event). Watches sh book o d es accepted inner) (sym passed_more) r.1)
