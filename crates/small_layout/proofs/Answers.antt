-- What the code finds of a packed arena and of columns that are not refused. Assumes nothing.
use Prim.Native.Nat.{ℕ, ◌≤◌}
use mathlib.Core.Path.{◌≡◌, refl}
use mathlib.Core.Bool.{false}
use native.Mathlib.Omega.{arith}
use lib.ListN.{length}
use Rattle.definitions.specs.Arena.{Arena, capacity_limit, capacity, stack_length}
use Rattle.definitions.specs.Check.{misshapen}
use Rattle.definitions.proofs.Shaped.{sized}
use Rattle.all_small.specs.SmallArenas.{small_arenas}
use Rattle.all_small.proofs.SmallArenas.{small_arenas_lem}
use Rattle.all_small.proofs.Packed.{digit, unpacked}
use Rattle.small_layout.specs.Laid.{RoomFor}

-- how many small arenas there are
pub ninety : length small_arenas ≡ 90
ninety = small_arenas_lem.size

-- the stack length of a packed arena
pub stack_of : (p : ℕ) → stack_length (unpacked p) ≡ digit p 1
unfolding unpacked
stack_of p = refl

-- columns of one length have room for as many slots
pub room_for : (e a : Arena) → misshapen capacity_limit a ≡ false → stack_length e ≤ capacity a → RoomFor e a
room_for e a m l =
    let s = sized capacity_limit a m in
    record {
      in_prev = l;
      in_next = omega (arith, s.next_length);
      in_generation = omega (arith, s.generation_length);
      in_payload = omega (arith, s.payload_length);
      header = s.header;
    }
