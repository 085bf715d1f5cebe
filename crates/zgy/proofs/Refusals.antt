-- Demand 1, from the checks of each call in their order. Assumes nothing.
use mathlib.Core.Bool.{Bool, true, false, not, cond, ◌&&◌, ◌||◌}
use mathlib.Core.List.{List, [], ◌∷◌}
use mathlib.Core.Path.{◌≡◌, refl, sym, ap, ◌∙◌}
use Prim.Native.Nat.{ℕ}
use native.Mathlib.Omega.{arith}
use lib.Ieee.{Float}
use lib.Dec.{eqb, leb, ltb}
use lib.ListN.{length}
use Rattle.endian.specs.Loops.{first}
use Rattle.floats.specs.Position.{position_of}
use Rattle.geometry.specs.Limits.{text_start}
use Rattle.record.specs.Types.{coding_of, type_verdict}
use Rattle.record.specs.declared.Coding.TheVariants.{Scaled, Float32}
use Rattle.record.specs.Answers.{number, entry, and_then, unless_found, verdict_of, answered, Done, Verdict, Taken, refused}
use Rattle.record.specs.Header.{version_of, description_of, text_length_of, text_of}
use Rattle.record.specs.Record.{size_of, bricks_of, brick_bytes_of, header_of}
use Rattle.record.specs.declared.Description.{Description}
use Rattle.record.specs.declared.Record.{Record}
use Rattle.record.specs.declared.Refusal.{Refusal}
use Rattle.checks.specs.Checks.{breaks2, breaks3, breaks4, verdict5, breaks6, breaks7, breaks8, breaks9, breaks11, described}
use Rattle.checks.specs.Fits.{breaks14, breaks14_with}
use Rattle.table.specs.declared.Kind.{Kind}
use Rattle.table.specs.declared.Kind.TheVariants.{Missing, Constant, Stored}
use Rattle.table.specs.Entries.{breaks12, breaks13}
use Rattle.opening.specs.Opening.{length_verdict, text_verdict, range_verdict, overlap_verdict, entries_verdict, body_verdict, header_verdict, open_verdict, record_in, opened_of}
use Rattle.cube.specs.declared.Region.{Region}
use Rattle.cube.specs.Places.{item_bytes, kind_in}
use Rattle.cube.specs.Regions.{touches, not_stored, in_extent, region_verdict, raw_verdict, float_verdict, write_verdict}
use Rattle.cube.specs.Calls.{Call, raw_read, float_read, write, lent, verdict_on, moves, answer_of}
use Rattle.cube.proofs.Calls.{refused-cube, refused-buffers}
use Rattle.bricks.specs.Bricks.{brick_of, kind_verdict, kind_answer, fill_of, filled_with, room_verdict, value_verdict, filler_verdict, shown_verdict, view_verdict}
use Rattle.positions.specs.Positions.{orig_in, inc_in, position_answer}
use Rattle.strings.specs.Strings.{strings_verdict}
use Rattle.strings.proofs.Parts.{turn_verdict_lem}
use Rattle.making.specs.Making.{made_length, made_file, make_verdict, make_answer, buffer_if, make_buffer}
use Rattle.making.specs.declared.Fill.{Fill}
use Rattle.subtiles.specs.Subtiles.{breaks20}
use Rattle.subtiles.specs.Answers.{bytes_in, breaks18, permute_answer, buffer_after}
use Rattle.zgy.specs.Ledger.{Event, CallOn}
use Rattle.zgy.specs.Refusals.{one_of, may_be, numbers_of, RefusedByNumber, RefusedLeaves, EveryCallRefusesByNumber}
use Rattle.record.specs.declared.Refusal.TheVariants as refusal
use Rattle.std.specs.Prelude.{Ok, Err}

-- a check, then the later ones
by_check : (ks : List ℕ) (b : Bool) (v later : Verdict) → may_be ks v ≡ true → may_be ks later ≡ true → may_be ks (cond b v later) ≡ true
by_check ks true v later e l = e
by_check ks false v later e l = l

by_then : (ks : List ℕ) (v later : Verdict) → may_be ks v ≡ true → may_be ks later ≡ true → may_be ks (and_then v later) ≡ true
by_then ks (Ok u) later e l = l
by_then ks (Err x) later e l = e

by-found : (ks : List ℕ) (check : ℕ → Refusal) (p : ℕ → Bool) (m : ℕ) (later : Verdict) → ((e : ℕ) → may_be ks (refused (check e)) ≡ true) → may_be ks later ≡ true
    → may_be ks (unless_found check (first p m) m later) ≡ true
by-found ks check p m later e l = by_check ks (ltb (first p m) m) (refused (check (first p m))) later (e (first p m)) l

-- a refusal that the call may give, and a taken call
may : (ks : List ℕ) (x : Refusal) → one_of (number x) ks && (one_of (number x) (12 ∷ 13 ∷ 19 ∷ []) || eqb (entry x) 0) ≡ true → may_be ks (refused x) ≡ true
unfolding may_be
may ks x q = q

may_take : (ks : List ℕ) → may_be ks Taken ≡ true
unfolding may_be
may_take ks = refl

by_description : (ks : List ℕ) (d : Description) (t : ℕ) → may_be ks (refused refusal.Side) ≡ true → may_be ks (refused refusal.Datatype) ≡ true → may_be ks (refused refusal.Size) ≡ true → may_be ks (refused refusal.Floats) ≡ true
    → may_be ks (refused refusal.Bricks) ≡ true → may_be ks (refused refusal.TextLength) ≡ true → may_be ks (described d t) ≡ true
unfolding described coding_of
by_description ks d t a b c e g h =
    by_check ks (breaks4 d) _ _ a (by_then ks (verdict5 d) _ (typed (eqb d.datatype 0) (eqb d.datatype 2) (eqb d.datatype 6)) (by_check ks (breaks6 d) _ _ c (by_check ks (breaks7 d) _ _ e (by_check ks (breaks8 d) _ _ g (by_check ks (breaks9 t) _ _ h (may_take ks))))))
  where
    typed : (x y z : Bool) → may_be ks (type_verdict (cond x (Ok (Scaled 1 128)) (cond y (Ok (Scaled 2 32768)) (cond z (Ok (Float32 4)) (Err refusal.Datatype))))) ≡ true
    typed true y z = may_take ks
    typed false true z = may_take ks
    typed false false true = may_take ks
    typed false false false = b

-- an answer's verdict is the one that made it
verdict_done : {A : Type 0} (v : Verdict) (x : A) → verdict_of (answered v x) ≡ v
verdict_done (Ok u) x = refl
verdict_done (Err y) x = refl

opening : (f : List ℕ) → may_be (1 ∷ 2 ∷ 3 ∷ 4 ∷ 5 ∷ 6 ∷ 7 ∷ 8 ∷ 9 ∷ 10 ∷ 11 ∷ 12 ∷ 13 ∷ []) (verdict_of (opened_of f)) ≡ true
unfolding opened_of open_verdict header_verdict body_verdict length_verdict text_verdict entries_verdict range_verdict overlap_verdict
opening f =
    rw (verdict_done (open_verdict f) r)
    (by_then ks (header_verdict f) (body_verdict r f)
    (by_check ks (ltb (length f) text_start) _ _ (may ks refusal.Short refl) (by_check ks (breaks2 f) _ _ (may ks refusal.Magic refl) (by_check ks (breaks3 (version_of f)) _ _ (may ks refusal.Version refl)
    (by_description ks (description_of f) (text_length_of f) (may ks refusal.Side refl) (may ks refusal.Datatype refl) (may ks refusal.Size refl) (may ks refusal.Floats refl) (may ks refusal.Bricks refl) (may ks refusal.TextLength refl)))))
    (by_then ks (length_verdict r f) (and_then (text_verdict r f) (entries_verdict r f)) (by_check ks (ltb (length f) (header_of r.description r.text)) (refused refusal.Headers) Taken (may ks refusal.Headers refl) (may_take ks))
    (by_then ks (text_verdict r f) (entries_verdict r f) (by_check ks (breaks11 (text_of f r.text)) (refused refusal.Text) Taken (may ks refusal.Text refl) (may_take ks))
    (by_then ks (range_verdict r f) (overlap_verdict r f)
    (by-found ks refusal.Range (breaks12 r f) (bricks_of r.description) Taken (λ e. may ks (refusal.Range e) refl) (may_take ks))
    (by-found ks refusal.Overlap (breaks13 r f) (bricks_of r.description) Taken (λ e. may ks (refusal.Overlap e) refl) (may_take ks))))))
  where
    ks : List ℕ
    ks = 1 ∷ 2 ∷ 3 ∷ 4 ∷ 5 ∷ 6 ∷ 7 ∷ 8 ∷ 9 ∷ 10 ∷ 11 ∷ 12 ∷ 13 ∷ []

    r : Record
    r = record_in f

region : (ks : List ℕ) (r : Record) (f : List ℕ) (g : Region) (room need : ℕ) (later : Verdict)
    → may_be ks (refused refusal.Record) ≡ true → may_be ks (refused refusal.Level) ≡ true → may_be ks (refused refusal.Index) ≡ true → may_be ks (refused refusal.Room) ≡ true → ((e : ℕ) → may_be ks (refused (refusal.Range e)) ≡ true)
    → may_be ks later ≡ true → may_be ks (region_verdict r f g room need later) ≡ true
unfolding region_verdict
region ks r f g room need later a b c d e l =
    by_check ks (breaks14_with r (length f)) _ _ a (by_check ks (leb r.levels g.level) _ _ b (by_check ks (not (in_extent r g)) _ _ c (by_check ks (ltb room need) _ _ d (by-found ks refusal.Range (λ e. touches r g e && breaks12 r f e) (bricks_of r.description) later e l))))

region-verdict : (r : Record) (f : List ℕ) (c : Call) → may_be (numbers_of c) (verdict_on r f c) ≡ true
unfolding raw_verdict float_verdict write_verdict
region-verdict r f (raw_read g b) = let ks : List ℕ = 14 ∷ 15 ∷ 16 ∷ 18 ∷ 12 ∷ [] in
    region ks r f g _ _ Taken (may ks refusal.Record refl) (may ks refusal.Level refl) (may ks refusal.Index refl) (may ks refusal.Room refl) (λ e. may ks (refusal.Range e) refl) (may_take ks)
region-verdict r f (float_read g b) = let ks : List ℕ = 14 ∷ 15 ∷ 16 ∷ 18 ∷ 12 ∷ [] in
    region ks r f g _ _ Taken (may ks refusal.Record refl) (may ks refusal.Level refl) (may ks refusal.Index refl) (may ks refusal.Room refl) (λ e. may ks (refusal.Range e) refl) (may_take ks)
region-verdict r f (write g d) = let ks : List ℕ = 14 ∷ 15 ∷ 16 ∷ 18 ∷ 12 ∷ 19 ∷ [] in
    region ks r f g _ _ _ (may ks refusal.Record refl) (may ks refusal.Level refl) (may ks refusal.Index refl) (may ks refusal.Room refl) (λ e. may ks (refusal.Range e) refl) (by-found ks refusal.NotStored (λ e. touches r g e && not_stored r f e) (bricks_of r.description) Taken (λ e. may ks (refusal.NotStored e) refl) (may_take ks))

kind : (ks : List ℕ) (r : Record) (f : List ℕ) (e : ℕ) → may_be ks (refused refusal.Record) ≡ true → may_be ks (refused refusal.Index) ≡ true → may_be ks (refused (refusal.Range e)) ≡ true → may_be ks (kind_verdict r f e) ≡ true
unfolding kind_verdict
kind ks r f e a b c = by_check ks (breaks14_with r (length f)) _ _ a (by_check ks (leb r.bricks e) _ _ b (by_check ks (breaks12 r f e) _ _ c (may_take ks)))

view : List ℕ
view = 14 ∷ 16 ∷ 12 ∷ 18 ∷ 17 ∷ []

filler : (r : Record) (k : Kind) (l : List ℕ) → may_be (14 ∷ 16 ∷ 12 ∷ 18 ∷ 17 ∷ []) (filler_verdict r k l) ≡ true
unfolding filler_verdict room_verdict value_verdict view
filler r k l =
    by_then view (room_verdict r l) (value_verdict r k l)
    (by_check view (ltb (length l) (brick_bytes_of r.description)) (refused refusal.Room) Taken (may view refusal.Room refl) (may_take view))
    (by_check view (not (filled_with (fill_of r k) l (item_bytes r) (brick_bytes_of r.description))) (refused refusal.Filler) Taken (may view refusal.Filler refl) (may_take view))

shown : (r : Record) (k : Kind) (l : List ℕ) → may_be (14 ∷ 16 ∷ 12 ∷ 18 ∷ 17 ∷ []) (shown_verdict r k l) ≡ true
shown r Missing l = filler r Missing l
shown r (Constant v) l = filler r (Constant v) l
shown r (Stored o) l = may_take (14 ∷ 16 ∷ 12 ∷ 18 ∷ 17 ∷ [])

placing : (r : Record) (k i : ℕ) → may_be (14 ∷ 16 ∷ []) (verdict_of (position_answer r k i)) ≡ true
unfolding position_answer
placing r k i = go (breaks14 r) (leb 3 k || leb (size_of r.description k) i)
  where
    go : (a b : Bool) → may_be (14 ∷ 16 ∷ []) (verdict_of {A = Float} (cond a (Err refusal.Record)
        (cond b (Err refusal.Index) (Ok (position_of (orig_in r k) (inc_in r k) i))))) ≡ true
    go true b = may (14 ∷ 16 ∷ []) refusal.Record refl
    go false true = may (14 ∷ 16 ∷ []) refusal.Index refl
    go false false = may_take (14 ∷ 16 ∷ [])

walking : (r : Record) (f : List ℕ) → may_be (14 ∷ 11 ∷ []) (strings_verdict r f) ≡ true
unfolding strings_verdict
walking r f = let ks : List ℕ = 14 ∷ 11 ∷ [] in
    by_check ks (breaks14_with r (length f)) _ _ (may ks refusal.Record refl) (by_check ks (breaks11 (text_of f r.text)) _ _ (may ks refusal.Text refl) (may_take ks))

making : (d : Description) (text : List ℕ) (fill : Fill) (n : ℕ) → may_be (4 ∷ 5 ∷ 6 ∷ 7 ∷ 8 ∷ 9 ∷ 11 ∷ 18 ∷ []) (make_verdict d text fill n) ≡ true
unfolding make_verdict
making d text fill n =
    let ks : List ℕ = 4 ∷ 5 ∷ 6 ∷ 7 ∷ 8 ∷ 9 ∷ 11 ∷ 18 ∷ [] in
    by_then ks (described d (length text)) (cond (breaks11 text) (refused refusal.Text) (cond (ltb n (made_length d (length text) fill)) (refused refusal.Room) Taken))
    (by_description ks d (length text) (may ks refusal.Side refl) (may ks refusal.Datatype refl) (may ks refusal.Size refl) (may ks refusal.Floats refl) (may ks refusal.Bricks refl) (may ks refusal.TextLength refl))
    (by_check ks (breaks11 text) _ _ (may ks refusal.Text refl) (by_check ks (ltb n (made_length d (length text) fill)) _ _ (may ks refusal.Room refl) (may_take ks)))

moving : (side : List ℕ) (w from into : ℕ) → may_be (20 ∷ 18 ∷ []) (verdict_of (permute_answer side w from into)) ≡ true
unfolding permute_answer
moving side w from into = go (breaks20 side w) (breaks18 (bytes_in side w) from into)
  where
    go : (a b : Bool) → may_be (20 ∷ 18 ∷ []) (verdict_of {A = ℕ} (cond a (Err refusal.Subtiles) (cond b (Err refusal.Room) (Ok (bytes_in side w))))) ≡ true
    go true b = may (20 ∷ 18 ∷ []) refusal.Subtiles refl
    go false true = may (20 ∷ 18 ∷ []) refusal.Room refl
    go false false = may_take (20 ∷ 18 ∷ [])

pub numbers : RefusedByNumber
unfolding answer_of kind_answer view_verdict make_answer view
numbers = record {
  opening = opening;
  brick_kind = λ r f e. let ks : List ℕ = 14 ∷ 16 ∷ 12 ∷ [] in rw (verdict_done (kind_verdict r f e) (brick_of r.description.datatype (kind_in r f e))) (kind ks r f e (may ks refusal.Record refl) (may ks refusal.Index refl) (may ks (refusal.Range e) refl));
  brick_view = λ r f l e. by_then view (kind_verdict r f e) (shown_verdict r (kind_in r f e) l) (kind view r f e (may view refusal.Record refl) (may view refusal.Index refl) (may view (refusal.Range e) refl)) (shown r (kind_in r f e) l);
  region-call = λ r f c. rw (verdict_done (verdict_on r f c) (moves r c)) (region-verdict r f c);
  position = placing;
  strings = walking;
  turn = λ r f n. rw (turn_verdict_lem r f n) (walking r f);
  make = λ d text fill n. rw (verdict_done (make_verdict d text fill n)) (making d text fill n);
  permute = moving;
}

-- ---- what a refused call leaves

by_answer : (a : Done) (x : Refusal) (moved buffer : List ℕ) → verdict_of a ≡ refused x → buffer_after a moved buffer ≡ buffer
by_answer (Ok n) x moved buffer e = let z : ◌≡◌ {A = ℕ} 0 1 = cc in absurd (omega arith)
by_answer (Err y) x moved buffer e = refl

region-call : (r : Record) (f : List ℕ) (e : Event) (x : Refusal) → CallOn r f e → verdict_of e.answer ≡ refused x → (e.cube ≡ f) × (e.buffers ≡ lent e.call)
unfolding answer_of
region-call r f e x C q =
    let v : verdict_on r f e.call ≡ refused x = sym (verdict_done (verdict_on r f e.call) (moves r e.call)) ∙ ap verdict_of (sym C.answer-is) ∙ q in
    (C.cube-is ∙ refused-cube r f x e.call v, C.buffers_are ∙ refused-buffers r f x e.call v)

pub leaves : RefusedLeaves
unfolding make_buffer make_answer
leaves = record {
  region-call = region-call;
  make = λ d text fill buffer x e.
      ap (λ (v : Verdict). buffer_if v (made_file d text fill) buffer) (sym (verdict_done (make_verdict d text fill (length buffer)) _) ∙ e);
  permute = λ side w from into x moved buffer e. by_answer (permute_answer side w from into) x moved buffer e;
}

pub every-call_refuses : EveryCallRefusesByNumber
every-call_refuses = record { numbers = numbers; leaves = leaves }
