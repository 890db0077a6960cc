-- `refusal::Refusal::word` meets its contract: at each row the characters of its word compute to the bytes handed over.
use Rattle.std.specs.Prelude.{refl}
use Rattle.refusal.proofs.Refusal.word.Goals as goal

pub returns-in-Misfit : goal.returns-in-Misfit
returns-in-Misfit c = rw c.in-Misfit.is refl

pub returns-in-Address : goal.returns-in-Address
returns-in-Address c = rw c.in-Address.is refl

pub returns-in-Reader : goal.returns-in-Reader
returns-in-Reader c = rw c.in-Reader.is refl

pub returns-in-Engaged : goal.returns-in-Engaged
returns-in-Engaged c = rw c.in-Engaged.is refl

pub returns-in-Idle : goal.returns-in-Idle
returns-in-Idle c = rw c.in-Idle.is refl

pub returns-in-NoPerch : goal.returns-in-NoPerch
returns-in-NoPerch c = rw c.in-NoPerch.is refl

pub returns-in-Unknown : goal.returns-in-Unknown
returns-in-Unknown c = rw c.in-Unknown.is refl

pub returns-in-Length : goal.returns-in-Length
returns-in-Length c = rw c.in-Length.is refl

pub returns-in-Map : goal.returns-in-Map
returns-in-Map c = rw c.in-Map.is refl

pub returns-in-Station : goal.returns-in-Station
returns-in-Station c = rw c.in-Station.is refl

pub returns-in-Turn : goal.returns-in-Turn
returns-in-Turn c = rw c.in-Turn.is refl

pub returns-in-Altered : goal.returns-in-Altered
returns-in-Altered c = rw c.in-Altered.is refl

pub returns-in-Code : goal.returns-in-Code
returns-in-Code c = rw c.in-Code.is refl

pub returns-in-Short : goal.returns-in-Short
returns-in-Short c = rw c.in-Short.is refl
