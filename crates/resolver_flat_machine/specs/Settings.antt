-- How a core is to work, and how that is spelled.
use Rattle.std.specs.Prelude.{◌≡◌, ℕ, ◌==◌, Bool, Option, Some, None, unwrap_or, option_map, if◌then◌else◌}
use Rattle.std.specs.Int.{w32}
use Rattle.std.specs.NonZero.{non_zero_u32_get}
use Rattle.resolver_fetch_scan.specs.declared.config.Config.{Config}
use Rattle.resolver_flat.specs.Naming.{Shape}
use Rattle.resolver_flat.specs.Reading.{◌>>=◌, Reads, flag_at, moment_at, name_at, number_at, option_at}
use Rattle.resolver_flat_machine.specs.declared.settings.Settings.{Settings as CodeSettings}

pub record Settings (K : Type 0) : Type 0 where
  pub me : Option K
  pub fetch_timeout : ℕ
  pub retry_delay : ℕ
  -- 0: none
  pub peer_limit : ℕ
  pub priority_requests : Bool
  pub priority_responses : Bool

unfoldable pub settings_at : {K : Type 0} → Shape K → Reads (Settings K)
settings_at n bytes = do
  me ← option_at (name_at n) bytes
  timeout ← moment_at me.1
  delay ← moment_at timeout.1
  limit ← number_at w32 delay.1
  requests ← flag_at limit.1
  responses ← flag_at requests.1
  if timeout.0 == 0 then None else Some (
    record {
      me = me.0;
      fetch_timeout = timeout.0;
      retry_delay = delay.0;
      peer_limit = limit.0;
      priority_requests = requests.0;
      priority_responses = responses.0;
    },
    responses.1,
  )

-- what the code's settings say
abbrev pub said : {K : Type 0} → CodeSettings K → Settings K
said settings = record {
  me = settings.me;
  fetch_timeout = settings.fetch_timeout;
  retry_delay = settings.retry_delay;
  peer_limit = settings.peer_limit;
  priority_requests = settings.priority_requests;
  priority_responses = settings.priority_responses;
}

-- the configuration says what the settings say
pub record IsSet {K : Type 0} (settings : Settings K) (configuration : Config K) : Type 0 where
  pub me : configuration.me ≡ settings.me
  pub timeout : configuration.fetch_timeout ≡ settings.fetch_timeout
  pub delay : configuration.retry_delay ≡ settings.retry_delay
  pub limit : unwrap_or (option_map non_zero_u32_get configuration.peer_limit) 0 ≡ settings.peer_limit
  pub requests : configuration.priority_requests ≡ settings.priority_requests
