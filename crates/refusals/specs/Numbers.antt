-- Document 01's number of each refusal, and what answers are by their numbers: 0 stands for none. Assumes nothing.
use Rattle.std.specs.Prelude.{ℕ, cond, eqb, Result, Ok, Err}
use Rattle.refusals.specs.declared.Refusal.{Refusal}
use Rattle.refusals.specs.declared.Refusal.TheVariants.{NoHeader, CountsTooHigh, LogTooShort, LogTooLong, NoSuchCabinet, WrongStart, WrongSum, NoSuchKind, NoSuchKey, NoSuchWriter, SecondRead, SecondWrite, NotItsOwnWrite, NotATable, WrongCountOfTimes, WrongTimes, NoSuchSetting, NotAnOrder, TooFewPlaces, NotFresh, NothingLoaded, NotDecided, DecidedWithoutOrder, NoneOpen, OneOpen, NoLog}

abbrev pub code : Refusal → ℕ
code NoHeader = 1
code CountsTooHigh = 2
code LogTooShort = 3
code LogTooLong = 35
code NoSuchCabinet = 4
code WrongStart = 5
code WrongSum = 6
code NoSuchKind = 7
code NoSuchKey = 8
code NoSuchWriter = 9
code SecondRead = 10
code SecondWrite = 34
code NotItsOwnWrite = 11
code NotATable = 36
code WrongCountOfTimes = 37
code WrongTimes = 38
code NoSuchSetting = 12
code NotAnOrder = 13
code TooFewPlaces = 25
code NotFresh = 21
code NothingLoaded = 22
code NotDecided = 23
code DecidedWithoutOrder = 24
code NoneOpen = 31
code OneOpen = 32
code NoLog = 33

-- the number of an answer
abbrev pub number_of : {X : Type 0} → Result X Refusal → ℕ
number_of (Ok x) = 0
number_of (Err r) = code r

-- the refusal with a number; of 14 to 20 and other numbers that none has, the last
unfoldable pub refusal_of : ℕ → Refusal
refusal_of n =
    cond (eqb n 1) NoHeader (cond (eqb n 2) CountsTooHigh (cond (eqb n 3) LogTooShort (cond (eqb n 35) LogTooLong (cond (eqb n 4) NoSuchCabinet (cond (eqb n 5) WrongStart
    (cond (eqb n 6) WrongSum (cond (eqb n 7) NoSuchKind (cond (eqb n 8) NoSuchKey (cond (eqb n 9) NoSuchWriter (cond (eqb n 10) SecondRead (cond (eqb n 34) SecondWrite
    (cond (eqb n 11) NotItsOwnWrite (cond (eqb n 36) NotATable (cond (eqb n 37) WrongCountOfTimes (cond (eqb n 38) WrongTimes (cond (eqb n 12) NoSuchSetting
    (cond (eqb n 13) NotAnOrder (cond (eqb n 25) TooFewPlaces (cond (eqb n 21) NotFresh (cond (eqb n 22) NothingLoaded (cond (eqb n 23) NotDecided
    (cond (eqb n 24) DecidedWithoutOrder (cond (eqb n 31) NoneOpen (cond (eqb n 32) OneOpen NoLog))))))))))))))))))))))))

-- the answer with a number: a value where that is 0
unfoldable pub answer_of : {X : Type 0} → ℕ → X → Result X Refusal
answer_of n x = cond (eqb n 0) (Ok x) (Err (refusal_of n))
