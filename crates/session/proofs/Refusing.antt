-- A stopped event is none with which the events are a run, and its stop is the first that applies.
use Rattle.std.proofs.Common.{◌≡◌, ℕ, ◌-◌, List, length, Err, sym, ap, ◌∙◌, subst, inl, inr, arith}
use Rattle.sheet.specs.Model.{Sheet}
use Rattle.events.specs.declared.event.Event.{Event}
use Rattle.parting.specs.declared.accepted.Accepted.{Accepted}
use Rattle.protocol.specs.Actions.{Way, sends, receives}
use Rattle.runs.specs.Events.{direction_of}
use Rattle.runs.specs.Run.{Book as TimeRows, Admits}
use Rattle.runs.specs.Monitor.{Passes, Room}
use Rattle.events.specs.declared.fault.SessionFault.{SessionFault}
use Rattle.events.specs.declared.fault.SessionFault.TheVariants.{Book, Depth, Who, What, Back, Turn, Line, Full, Time}
use Rattle.session.specs.declared.inner.Inner.{Inner}
use Rattle.session.specs.Admitted.{Judged}
use Rattle.session.specs.Kept.{monitor_of}
use Rattle.session.specs.Outcomes.{Known, HasTurn, Waits, HasRoom, Refused, Stopping}
use Rattle.session.specs.Watches.{Watches}
use Rattle.session.proofs.Passage.{keeps}
use Rattle.session.proofs.Verdict.{Judgement, judged, not_in_row}

module _ (sh : Sheet) (book : TimeRows) (opening depth : ℕ) (es : List Event) (accepted : Accepted) (inner : Inner) (w : Watches sh book opening depth es accepted inner) (e : Event) where
  refused : (fault : SessionFault) → Judged book accepted inner e (Err fault) → Refused sh book opening depth es e fault
  refused fault (inl q) = subst (Judgement sh book opening depth es accepted inner w e) q (judged sh book opening depth es accepted inner w e)
  refused fault (inr x) =
      let s = subst (Judgement sh book opening depth es accepted inner w e) x.2 (judged sh book opening depth es accepted inner w e) in
      subst (Refused sh book opening depth es e) (sym x.0) (not_in_row sh book opening depth es accepted inner w e x.1 s x.3)

  abbrev Passed : Type 0
  Passed = Passes sh book depth (monitor_of accepted inner) e

  known : Passed → Known sh e
  known p = record { role = p.role_known; partner = p.partner_known; apart = p.apart }

  abbrev has_turn : Passed → HasTurn sh es e
  has_turn p = record {
    action = p.action;
    able = record { state = p.able.state; inside = (w.stands.set e.role p.able.state p.role_known).0 p.able.inside; acts = p.able.acts };
    fits = p.fits;
  }

  waits : Passed → (way : Way) → e.direction ≡ direction_of way → Room depth (monitor_of accepted inner) e way → Waits es e
  waits p sends q room one = absurd (omega (arith, q, one))
  waits p receives q room one = (room.0, room.1, sym (w.stands.channel e.partner e.role p.partner_known p.role_known) ∙ room.2, room.3)

  has_room : Passed → (way : Way) → e.direction ≡ direction_of way → Room depth (monitor_of accepted inner) e way → HasRoom depth es e
  has_room p sends q room zero = let same = ap length (w.stands.channel e.role e.partner p.role_known p.partner_known) in omega (arith, same, room)
  has_room p receives q room zero = absurd (omega (arith, q, zero))

  -- each refusal denies what a pass needs
  denied : (fault : SessionFault) → Refused sh book opening depth es e fault → Passed → ⊥
  denied (Book rows) r p = r
  denied (Depth d) r p = r
  denied (Who role label) r p = r.2 (known p)
  denied (What role label) r p = r.3 (record { label = p.label_known; direction = p.direction_known })
  denied (Back role label) r p = r.4 (let a = p.in_time in let b = w.stands.latest in omega (arith, a, b))
  denied (Turn role label) r p = r.5 (has_turn p)
  denied (Line role label) r p = r.6 (λ one. waits p p.action.way p.fits.direction p.room one)
  denied (Full role label) r p = r.7 (λ zero. has_room p p.action.way p.fits.direction p.room zero)
  denied (Time role label) r p = r.8 (record {
    turn = has_turn p;
    path = w.stands.run.path;
    leads = w.stands.run.leads;
    begins = w.stands.run.shares e.role;
    holds = subst (λ t. Admits book p.action.timing (e.tick - t)) (w.stands.since e.role p.role_known) p.holds;
  })

  pub stopping : (fault : SessionFault) → Judged book accepted inner e (Err fault) → Stopping sh book opening depth es e fault
  stopping fault j = record {
    no_run = λ run. denied fault (refused fault j) (((keeps sh book opening depth es accepted inner w).agrees es (monitor_of accepted inner) w.stands e).1 run);
    refused = refused fault j;
  }
