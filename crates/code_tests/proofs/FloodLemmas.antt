-- Before the first instruction anything may come.
use Rattle.std.proofs.Common.{◌≡◌, ℕ, ◌≤◌, List, ℤ, [], length, arith}
use Rattle.std.specs.Prelude.{vec_capacity}
use Rattle.address_map.specs.Lawful.{Shape}
use Rattle.superstep_code.specs.Code.{SuperstepCode}
use Rattle.superstep_machine.specs.Run.{opening, setting}
use Rattle.bsp_machine.specs.declared.counted.CountedWorker.{CountedWorker}
use Rattle.bsp_machine.proofs.TallyLemmas.{none_told}
use Rattle.bsp_machine.specs.Opening.{IsFresh}
use Rattle.code_tests.specs.Flood.{CanBeFlooded}

pub fresh_flooded : (code : SuperstepCode) (m : Shape) (input : List ℤ) (x : CountedWorker) (room : ℕ) (words : List ℕ) →
    IsFresh code m input 0 x → m.parts ≡ 2 → room ≡ vec_capacity x.local.buffers.reply →
    length words ≤ vec_capacity x.local.buffers.reply → CanBeFlooded code m x room words
fresh_flooded code m input x room words f two is few =
    let going = f.going 9 in
    let most = going.equipped.buffers.reply in
    record {
      runnable = going.runnable;
      somewhere = record {
        states = λ n. opening (setting code m 9 n) input 0;
        told = λ n. [];
        between = record {
          worker = λ alive. f.worker;
          shown = λ alive n low. f.shown 9 n;
          going = λ on. f.going 9;
          counted = λ alive n low. none_told x.counts f.none f.none_made;
          items = λ alive. f.items;
          reserved = λ alive. f.reserved;
        };
      };
      two = two;
      enough = omega (arith, is, most);
      few = omega (arith, few, most);
    }
