-- The numbers of a made cube, and their bounds. Assumes nothing.
use mathlib.Core.Path.{◌≡◌, refl, ap, ◌∙◌}
use Prim.Native.Nat.{ℕ, ◌+◌, ◌-◌, ◌*◌, ◌/◌, ◌%◌, ◌≤◌, ◌<◌, min}
use native.Mathlib.Decide.{dec_le}
use native.Mathlib.Nat.{mul-le-mul, mul-le-mul_right, div-add-mod', div-mul-le_self, le_refl, le_trans}
use native.Mathlib.Omega.{arith}
use borrow.Author.Tests.{le-leb, lt-leb}
use Rattle.floats.specs.Rules.{finite_bits}
use Rattle.geometry.specs.Limits.{brick_limit, shortest_text, longest_text, bytes_room}
use Rattle.geometry.specs.Geometry.{ceil_div, header_end}
use Rattle.geometry.proofs.Levels.{ceil_le⁻¹}
use Rattle.record.specs.Record.{bricks_of, alphas_of, brick_bytes_of, header_of}
use Rattle.record.specs.declared.Description.{Description}
use Rattle.record.specs.Answers.{Taken}
use Rattle.record.proofs.Laws.{alphas-few}
use Rattle.checks.specs.Checks.{breaks9, described}
use Rattle.checks.proofs.Described.{all3-each, described-all, described_sized, described-few, described_text, described-brick}
use Rattle.checks.proofs.Records.{finites}
use Rattle.table.proofs.Tables as tables
use Rattle.making.specs.Making.{first_brick, made_length}
use Rattle.making.specs.Plan.{Measured, first_entry, entry_step, plan_of}
use Rattle.making.specs.declared.Fill.{Fill}
use Rattle.making.specs.declared.Fill.TheVariants.{Constant, Stored}
use Rattle.making.specs.declared.Plan.{Plan}

-- every text that is too long is refused alike
short9 : (n : ℕ) → n ≤ longest_text → breaks9 (min n (longest_text + 1)) ≡ breaks9 n
short9 n h = ap breaks9 (omega arith)

long9 : (n : ℕ) → longest_text < n → breaks9 (min n (longest_text + 1)) ≡ breaks9 n
unfolding breaks9
long9 n h =
    let e : min n (longest_text + 1) ≡ longest_text + 1 = omega arith in
    rw (e, le-leb shortest_text n (omega arith), lt-leb n longest_text h)

clamped9 : (n : ℕ) → breaks9 (min n (longest_text + 1)) ≡ breaks9 n
clamped9 n = elim (dec_le n longest_text) [ yes h ↦ short9 n h | no h ↦ long9 n (omega arith) ]

pub clamped : (d : Description) (n : ℕ) → described d (min n (longest_text + 1)) ≡ described d n
unfolding described
clamped d n = rw (clamped9 n)

module _ (d : Description) (t : ℕ) (taken : described d t ≡ Taken) where
  pub text_few : (shortest_text ≤ t) × (t ≤ longest_text)
  text_few = described_text d t (described-all d t taken)

  -- srvsize is a product of finite floats
  pub measured : Measured d
  measured =
      let p = described-all d t taken in
      let f = all3-each finite_bits d.inc (finites d p.not7).incs in
      let s = described_sized d t p in
      record {
        inline = record { inc-finite = f.0; size_small = s.size0.high };
        crossline = record { inc-finite = f.1; size_small = s.size1.high };
        vertical = record { inc-finite = f.2; size_small = s.size2.high };
      }

  pub bricks-few : bricks_of d ≤ brick_limit
  bricks-few = described-few d t (described-all d t taken)

  pub alphas-le-bricks : alphas_of d ≤ bricks_of d
  alphas-le-bricks = alphas-few d (described_sized d t (described-all d t taken))

  pub header_few : header_of d t ≤ header_end longest_text brick_limit brick_limit
  unfolding header_of
  header_few = omega (arith, alphas-le-bricks, bricks-few, text_few)

  pub brick-pos : 0 < brick_bytes_of d
  brick-pos = described-brick d t (described-all d t taken)

  pub brick-few : brick_bytes_of d ≤ bytes_room
  brick-few = tables.brick-few d (described_sized d t (described-all d t taken))

-- the first multiple of s at or after h
pub record Multiple (h s q : ℕ) : Type 0 where
  pub low : h ≤ q * s
  pub high : q * s < h + s

pub multiple : (h s q : ℕ) → 0 < s → q ≡ ceil_div h s → Multiple h s q
multiple h s q pos e = rw e (record { low = ceil_le⁻¹ h s (ceil_div h s) pos (le_refl (ceil_div h s)); high = omega (arith, div-mul-le_self (h + (s - 1)) s) })

-- two multiples of s, neither below h, and one of them less than s above it
multiple_le : (h s a b : ℕ) → h ≤ b * s → a * s < h + s → a ≤ b
multiple_le h s a b low high = elim (dec_le a b) [ yes q ↦ q | no q ↦ absurd (go (omega arith)) ]
  where
    go : b + 1 ≤ a → ⊥
    go q = omega (arith, mul-le-mul_right s q)

-- std's multiple is that one
pub next_multiple : (h s r : ℕ) → 0 < s → h ≤ r → r < h + s → r % s ≡ 0 → r ≡ ceil_div h s * s
next_multiple h s r pos low high e =
    let m = multiple h s _ pos refl in
    let whole : r ≡ r / s * s = omega (arith, div-add-mod' r s) in
    let most = multiple_le h s (r / s) (ceil_div h s) m.low (omega arith) in
    let least = multiple_le h s (ceil_div h s) (r / s) (omega arith) m.high in
    let q : r / s ≡ ceil_div h s = omega (arith, most, least) in
    whole ∙ ap (λ (n : ℕ). n * s) q

pub all-bytes : (b s : ℕ) → b ≤ brick_limit → s ≤ bytes_room → b * s ≤ brick_limit * bytes_room
all-bytes b s h g = mul-le-mul h g

-- the numbers that a plan is made from: a alpha tiles, b bricks of s bytes, headers of h bytes
pub record Numbers (d : Description) (t a b h s : ℕ) : Type 0 where
  pub alphas_are : a ≡ alphas_of d
  pub bricks_are : b ≡ bricks_of d
  pub header_is : h ≡ header_of d t
  pub brick-is : s ≡ brick_bytes_of d
  pub b_few : b ≤ brick_limit
  pub h_few : h ≤ header_end longest_text brick_limit brick_limit
  pub s_pos : 0 < s
  pub s_few : s ≤ bytes_room

pub numbers : (d : Description) (t : ℕ) → described d t ≡ Taken → (a b h s : ℕ)
    → a ≡ alphas_of d → b ≡ bricks_of d → h ≡ header_end t a b → s ≡ brick_bytes_of d → Numbers d t a b h s
unfolding header_of
numbers d t taken a b h s ea eb eh es =
    let header : h ≡ header_of d t = eh ∙ rw (ea, eb) in
    record {
      alphas_are = ea;
      bricks_are = eb;
      header_is = header;
      brick-is = es;
      b_few = omega (arith, eb, bricks-few d t taken);
      h_few = omega (arith, header, header_few d t taken);
      s_pos = omega (arith, es, brick-pos d t taken);
      s_few = omega (arith, es, brick-few d t taken);
    }

module _ (d : Description) (t a b h s : ℕ) (n : Numbers d t a b h s) (fill : Fill) where
  pub plan_constant : fill ≡ Constant
      → ◌≡◌ {A = Plan} (record { alphas = a; bricks = b; first = 9223372036854775808; step = 0; after = 0; length = h }) (plan_of d t fill)
  unfolding plan_of made_length
  plan_constant f =
      let e : header_of d t + 0 ≡ header_of d t = omega arith in
      simp (f, n.alphas_are, n.bricks_are, n.header_is, e)

  pub plan_stored : (q : ℕ) → q ≡ ceil_div h s * s → fill ≡ Stored
      → ◌≡◌ {A = Plan} (record { alphas = a; bricks = b; first = q; step = s; after = q - h + b * s; length = h + (q - h + b * s) }) (plan_of d t fill)
  unfolding plan_of made_length first_brick
  plan_stored q e f = simp (f, e, n.alphas_are, n.bricks_are, n.header_is, n.brick-is)

-- a plan's numbers fit
module _ (d : Description) (t : ℕ) (taken : described d t ≡ Taken) where
  pub first-brick : Multiple (header_of d t) (brick_bytes_of d) (ceil_div (header_of d t) (brick_bytes_of d))
  first-brick = multiple (header_of d t) (brick_bytes_of d) _ (brick-pos d t taken) refl

  pub bricks-bytes : bricks_of d * brick_bytes_of d ≤ brick_limit * bytes_room
  bricks-bytes = all-bytes (bricks_of d) (brick_bytes_of d) (bricks-few d t taken) (brick-few d t taken)

pub plan_length : (d : Description) (t : ℕ) (fill : Fill) (p : Plan) → p ≡ plan_of d t fill → p.length ≡ made_length d t fill
unfolding plan_of
plan_length d t fill p e = ap (λ (x : Plan). x.length) e

module _ (d : Description) (t : ℕ) (taken : described d t ≡ Taken) (fill : Fill) (p : Plan) (e : p ≡ plan_of d t fill) where
  pub plan_alphas : p.alphas ≤ brick_limit
  unfolding plan_of
  plan_alphas = rw e (le_trans (alphas-le-bricks d t taken) (bricks-few d t taken))

  -- the entries fit 64 bits
  pub plan_fits : p.first + p.bricks * p.step < 18446744073709551616
  unfolding plan_of first_brick
  plan_fits = rw e (go fill)
    where
      go : (f : Fill) → first_entry d t f + bricks_of d * entry_step d f < 18446744073709551616
      go Constant = omega arith
      go Stored = omega (arith, header_few d t taken, brick-few d t taken, first-brick d t taken, bricks-bytes d t taken)
