use Rattle.std.proofs.Common.{◌≡◌, Bool, length, min, sym, ap, ◌∙◌, subst, arith}
use Rattle.incumbent_words.specs.Codes.{IsCode}
use Rattle.incumbent_words.specs.Rule.{code_at, least_of, either_leads, joined, IsNote, IsSameButCaps}
use Rattle.incumbent_words.specs.declared.view.View.{View}
use Rattle.incumbent_words.proofs.Moves.{joins, length-least, code_at-least, code-min, codes-le, note-same, note-note}
use Rattle.incumbent_words.proofs.words.Words.join.Goals as goal
use Rattle.incumbent_words.proofs.words.Words.join.Goals.{then-seat, else-seat}

pub join_seat-requires : goal.join_seat-requires
join_seat-requires c =
    let mine : c.seat.inside.seat.table_id ≡ c.self.inside.table.shared.table_id = ap (λ h. h.table) c.seat.view_is ∙ (c.requires.table ∙ sym c.self.view_is) in
    let theirs : c.other.inside.seat.table_id ≡ c.self.inside.table.shared.table_id = ap (λ h. h.table) c.other.view_is ∙ (c.requires.other ∙ sym c.self.view_is) in
    let words = ap (λ z. z.words) (mine ∙ sym theirs) in
    let a = c.seat.invariant.caps_wide in
    let b = c.other.invariant.caps_wide in
    let d = c.seat.invariant.offers_wide in
    let e = c.other.invariant.offers_wide in
    (mine, theirs, c.other.invariant.empty, c.self.invariant.1, joins _ _ _ _ _ (omega arith) (omega arith))

pub invariant_of-seat : goal.invariant_of-seat
invariant_of-seat c =
    let s = c.seat.invariant in
    let o = c.other.invariant in
    let v : View = c.seat.inside.seat.me.0 in
    let w : View = c.other.inside.seat.me.0 in
    let now : View = c.join_seat.new.seat.me.0 in
    let is : now ≡ joined v w = ap (λ m. m.0) c.join_seat.ensures.2 in
    let table = c.join_seat.ensures.0 in
    let words = ap (λ z. z.words) table in
    let both = ap (λ z. z.words) (ap (λ h. h.table) c.seat.view_is ∙ (c.requires.table ∙ sym (ap (λ h. h.table) c.other.view_is ∙ c.requires.other))) in
    let a = s.caps_wide in
    let b = o.caps_wide in
    let d = s.offers_wide in
    let e = o.offers_wide in
    let wide : length v.caps ≡ length w.caps = omega arith in
    let wide' : length v.offers ≡ length w.offers = omega arith in
    let caps = s.caps in
    let theirs = c.as_slice.ensures.value ∙ o.caps in
    let own = s.offers in
    let their_own = c.as_slice-2.ensures.value ∙ o.offers in
    record {
      empty = ap (λ m. m.1) c.join_seat.ensures.2 ∙ s.empty;
      caps = c.lower.ensures ∙ ((λ i. least_of (caps i) (theirs i)) ∙ sym (ap (λ (u : View). u.caps) is));
      offers = c.lower-2.ensures ∙ ((λ i. least_of (own i) (their_own i)) ∙ sym (ap (λ (u : View). u.offers) is));
      leads = elim c.if-seat.branch [ then-seat x ↦ x.seat-is ∙ (x.if-seat.true ∙ sym (ap (λ (u : View). u.leads) is ∙ ap (λ (b : Bool). either_leads b w.leads) (sym s.leads ∙ x.if-seat.true))) | else-seat x ↦ x.seat-is ∙ (o.leads ∙ sym (ap (λ (u : View). u.leads) is ∙ ap (λ (b : Bool). either_leads b w.leads) (sym s.leads ∙ x.if-seat.false))) ];
      caps_wide = ap (λ (u : View). length u.caps) is ∙ (length-least v.caps w.caps wide ∙ (a ∙ sym words));
      offers_wide = ap (λ (u : View). length u.offers) is ∙ (length-least v.offers w.offers wide' ∙ (d ∙ sym words));
      caps_codes = λ k h. subst IsCode (sym (ap (λ (u : View). code_at u.caps k) is ∙ code_at-least v.caps w.caps k wide)) (code-min _ _ (s.caps_codes k (omega arith)) (o.caps_codes k (omega arith)));
      offers_codes = λ k h. subst IsCode (sym (ap (λ (u : View). code_at u.offers k) is ∙ code_at-least v.offers w.offers k wide')) (code-min _ _ (s.offers_codes k (omega arith)) (o.offers_codes k (omega arith)));
    }

pub returns-clause-caps : goal.returns-clause-caps
returns-clause-caps c k =
    let v : View = c.seat.inside.seat.me.0 in
    let w : View = c.other.inside.seat.me.0 in
    let is : c.join_seat.new.seat.me.0 ≡ joined v w = ap (λ m. m.0) c.join_seat.ensures.2 in
    let mine : v ≡ c.args.seat.now.view = ap (λ h. h.view) c.seat.view_is in
    let theirs : w ≡ c.args.other.view = ap (λ h. h.view) c.other.view_is in
    let both = ap (λ z. z.words) (ap (λ h. h.table) c.seat.view_is ∙ (c.requires.table ∙ sym (ap (λ h. h.table) c.other.view_is ∙ c.requires.other))) in
    let a = c.seat.invariant.caps_wide in
    let b = c.other.invariant.caps_wide in
    let d = c.seat.invariant.offers_wide in
    let e = c.other.invariant.offers_wide in
    let wide : length v.caps ≡ length w.caps = omega arith in
    ap (λ (u : View). code_at u.caps k) is ∙ code_at-least v.caps w.caps k wide ∙ ap (λ (u : View). min (code_at u.caps k) (code_at w.caps k)) mine ∙ ap (λ (u : View). min (code_at c.args.seat.now.view.caps k) (code_at u.caps k)) theirs

pub returns-clause-offers : goal.returns-clause-offers
returns-clause-offers c k =
    let v : View = c.seat.inside.seat.me.0 in
    let w : View = c.other.inside.seat.me.0 in
    let is : c.join_seat.new.seat.me.0 ≡ joined v w = ap (λ m. m.0) c.join_seat.ensures.2 in
    let mine : v ≡ c.args.seat.now.view = ap (λ h. h.view) c.seat.view_is in
    let theirs : w ≡ c.args.other.view = ap (λ h. h.view) c.other.view_is in
    let both = ap (λ z. z.words) (ap (λ h. h.table) c.seat.view_is ∙ (c.requires.table ∙ sym (ap (λ h. h.table) c.other.view_is ∙ c.requires.other))) in
    let a = c.seat.invariant.caps_wide in
    let b = c.other.invariant.caps_wide in
    let d = c.seat.invariant.offers_wide in
    let e = c.other.invariant.offers_wide in
    let wide : length v.offers ≡ length w.offers = omega arith in
    ap (λ (u : View). code_at u.offers k) is ∙ code_at-least v.offers w.offers k wide ∙ ap (λ (u : View). min (code_at u.offers k) (code_at w.offers k)) mine ∙ ap (λ (u : View). min (code_at c.args.seat.now.view.offers k) (code_at u.offers k)) theirs

pub returns-clause-note : goal.returns-clause-note
returns-clause-note c note =
    let v : View = c.seat.inside.seat.me.0 in
    let w : View = c.other.inside.seat.me.0 in
    let is : c.join_seat.new.seat.me.0 ≡ joined v w = ap (λ m. m.0) c.join_seat.ensures.2 in
    let mine : v ≡ c.args.seat.now.view = ap (λ h. h.view) c.seat.view_is in
    let theirs : w ≡ c.args.other.view = ap (λ h. h.view) c.other.view_is in
    let both = ap (λ z. z.words) (ap (λ h. h.table) c.seat.view_is ∙ (c.requires.table ∙ sym (ap (λ h. h.table) c.other.view_is ∙ c.requires.other))) in
    let a = c.seat.invariant.caps_wide in
    let b = c.other.invariant.caps_wide in
    let d = c.seat.invariant.offers_wide in
    let e = c.other.invariant.offers_wide in
    let wide : length v.offers ≡ length w.caps = omega arith in
    let same = note-same v w wide (codes-le v.offers _ d c.seat.invariant.offers_codes) (subst IsNote (sym theirs) note) in
    subst (λ (u : View). IsSameButCaps u c.join_seat.new.seat.me.0) mine (subst (IsSameButCaps v) (sym is) same)

pub returns-clause-notes : goal.returns-clause-notes
returns-clause-notes c own note =
    let v : View = c.seat.inside.seat.me.0 in
    let w : View = c.other.inside.seat.me.0 in
    let is : c.join_seat.new.seat.me.0 ≡ joined v w = ap (λ m. m.0) c.join_seat.ensures.2 in
    let mine : v ≡ c.args.seat.now.view = ap (λ h. h.view) c.seat.view_is in
    let theirs : w ≡ c.args.other.view = ap (λ h. h.view) c.other.view_is in
    let both = ap (λ z. z.words) (ap (λ h. h.table) c.seat.view_is ∙ (c.requires.table ∙ sym (ap (λ h. h.table) c.other.view_is ∙ c.requires.other))) in
    let a = c.seat.invariant.caps_wide in
    let b = c.other.invariant.caps_wide in
    let d = c.seat.invariant.offers_wide in
    let e = c.other.invariant.offers_wide in
    let wide : length v.caps ≡ length w.caps = omega arith in
    subst IsNote (sym is) (note-note v w (subst IsNote (sym mine) own) (subst IsNote (sym theirs) note) wide)
