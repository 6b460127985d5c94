-- Numbers stand for refusals: each has one of its own, and an answer is made up again of its number. Assumes nothing.
use Rattle.std.specs.Prelude.{◌≡◌, Result, Ok, Err}
use mathlib.Core.Path.{refl, sym, ap}
use native.Mathlib.Omega.{arith}
use Rattle.refusals.specs.declared.Refusal.{Refusal}
use Rattle.refusals.specs.declared.Refusal.TheVariants.{NoHeader, CountsTooHigh, LogTooShort, LogTooLong, NoSuchCabinet, WrongStart, WrongSum, NoSuchKind, NoSuchKey, NoSuchWriter, SecondRead, SecondWrite, NotItsOwnWrite, NotATable, WrongCountOfTimes, WrongTimes, NoSuchSetting, NotAnOrder, TooFewPlaces, NotFresh, NothingLoaded, NotDecided, DecidedWithoutOrder, NoneOpen, OneOpen, NoLog}
use Rattle.refusals.specs.Numbers.{code, number_of, refusal_of, answer_of}

-- the refusal with a refusal's number is that refusal
pub refusal_of_code : (r : Refusal) → refusal_of (code r) ≡ r
unfolding refusal_of
refusal_of_code NoHeader = refl
refusal_of_code CountsTooHigh = refl
refusal_of_code LogTooShort = refl
refusal_of_code LogTooLong = refl
refusal_of_code NoSuchCabinet = refl
refusal_of_code WrongStart = refl
refusal_of_code WrongSum = refl
refusal_of_code NoSuchKind = refl
refusal_of_code NoSuchKey = refl
refusal_of_code NoSuchWriter = refl
refusal_of_code SecondRead = refl
refusal_of_code SecondWrite = refl
refusal_of_code NotItsOwnWrite = refl
refusal_of_code NotATable = refl
refusal_of_code WrongCountOfTimes = refl
refusal_of_code WrongTimes = refl
refusal_of_code NoSuchSetting = refl
refusal_of_code NotAnOrder = refl
refusal_of_code TooFewPlaces = refl
refusal_of_code NotFresh = refl
refusal_of_code NothingLoaded = refl
refusal_of_code NotDecided = refl
refusal_of_code DecidedWithoutOrder = refl
refusal_of_code NoneOpen = refl
refusal_of_code OneOpen = refl
refusal_of_code NoLog = refl

-- no refusal has number 0
pub code_some : (r : Refusal) → code r ≡ 0 → ⊥
code_some NoHeader e = omega arith
code_some CountsTooHigh e = omega arith
code_some LogTooShort e = omega arith
code_some LogTooLong e = omega arith
code_some NoSuchCabinet e = omega arith
code_some WrongStart e = omega arith
code_some WrongSum e = omega arith
code_some NoSuchKind e = omega arith
code_some NoSuchKey e = omega arith
code_some NoSuchWriter e = omega arith
code_some SecondRead e = omega arith
code_some SecondWrite e = omega arith
code_some NotItsOwnWrite e = omega arith
code_some NotATable e = omega arith
code_some WrongCountOfTimes e = omega arith
code_some WrongTimes e = omega arith
code_some NoSuchSetting e = omega arith
code_some NotAnOrder e = omega arith
code_some TooFewPlaces e = omega arith
code_some NotFresh e = omega arith
code_some NothingLoaded e = omega arith
code_some NotDecided e = omega arith
code_some DecidedWithoutOrder e = omega arith
code_some NoneOpen e = omega arith
code_some OneOpen e = omega arith
code_some NoLog e = omega arith

-- an answer is made up again of its number: beside a refusal, whatever value stands for none
pub answer_err : {X : Type 0} (x : X) (r : Refusal) → answer_of (code r) x ≡ Err r
unfolding answer_of refusal_of
answer_err x NoHeader = refl
answer_err x CountsTooHigh = refl
answer_err x LogTooShort = refl
answer_err x LogTooLong = refl
answer_err x NoSuchCabinet = refl
answer_err x WrongStart = refl
answer_err x WrongSum = refl
answer_err x NoSuchKind = refl
answer_err x NoSuchKey = refl
answer_err x NoSuchWriter = refl
answer_err x SecondRead = refl
answer_err x SecondWrite = refl
answer_err x NotItsOwnWrite = refl
answer_err x NotATable = refl
answer_err x WrongCountOfTimes = refl
answer_err x WrongTimes = refl
answer_err x NoSuchSetting = refl
answer_err x NotAnOrder = refl
answer_err x TooFewPlaces = refl
answer_err x NotFresh = refl
answer_err x NothingLoaded = refl
answer_err x NotDecided = refl
answer_err x DecidedWithoutOrder = refl
answer_err x NoneOpen = refl
answer_err x OneOpen = refl
answer_err x NoLog = refl

pub answer_numbered : {X : Type 0} (x : X) (r : Result X Refusal) → ((y : X) → r ≡ Ok y → y ≡ x) → answer_of (number_of r) x ≡ r
unfolding answer_of
answer_numbered x (Ok y) f = ap (λ z. Ok z) (sym (f y refl))
answer_numbered x (Err r) f = answer_err x r
