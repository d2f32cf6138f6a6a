use Rattle.std.proofs.Common.{◌≡◌, ◌<◌, List, ◌∷◌, length, map, ap, subst, arith}
use Rattle.dsm_machine.specs.declared.frame.Frame.{Frame}
use Rattle.dsm_machine.specs.declared.machine.Machine.{Machine}
use Rattle.dsm_machine.specs.Frames.{frame_of, AllHaveRoom}
use Rattle.dsm_machine.specs.States.{IsRoomy, CanReturn}
use Rattle.dsm_machine.proofs.machine.Machine.finish_leave.Goals as goal

-- a caller that waits has the room of all frames
caller_room : (machine : Machine) (caller : Frame) (rest : List Frame) → IsRoomy machine → machine.outer.values ≡ caller ∷ rest → CanReturn machine.code.value (frame_of caller)
    → length caller.operands.values < caller.operands.room
caller_room machine caller rest roomy is can =
    let held = subst (AllHaveRoom machine.code.value.deepest machine.code.value.widest) is roomy.outer in
    omega (arith, can.room, held.0.operands)

pub push-requires-in-Some : goal.push-requires-in-Some
push-requires-in-Some c =
    let is = c.in-Some.ensures.items in
    let can = c.requires.callers (frame_of c.in-Some.caller) (map frame_of c.pop.new.self.values) (ap (map frame_of) is) in
    let room = caller_room c.args.self.now c.in-Some.caller c.pop.new.self.values c.requires.roomy is can in
    grind (arith, room)

pub overflow_add-self : goal.overflow_add-self
overflow_add-self c =
    let can = c.requires.callers (frame_of c.in-Some.caller) (map frame_of c.pop.new.self.values) (ap (map frame_of) c.in-Some.ensures.items) in
    let place = can.place in
    grind (arith, place)
